use mir.Syntax.{named}
use denote.Exit.{no}
use denote.Param.{param}
use denote.Param.Send.{param_send, param_sync, arg_send}
use Rattle.acdm_keeping.specs.contracts.synced.SyncedWrite.TheImpl as kept
use Rattle.acdm_serving.proofs.Crossing.{either_send, writing_send}
use Rattle.acdm_serving.proofs.Told.{told_partners}
use Rattle.acdm_serving.proofs.reconnecting.serve_reconnecting.Goals as goal

pub serve_sessions-served-requires-send-R : goal.serve_sessions-served-requires-send-R
serve_sessions-served-requires-send-R g c κs within =
    param_send 0 _ (arg_send _ no _ (either_send (record { mir = named 2; lft = _ }) (param 1 g.row.Rt) g.Rt.Wait
    g.Rt.Clock (param_sync 1 _ c.type_bounds.sync-Rt)))

pub serve_sessions-served-requires-send-W : goal.serve_sessions-served-requires-send-W
serve_sessions-served-requires-send-W g c κs within =
    let runtime = param 1 g.row.Rt in
    param_send 1 _ (arg_send _ no _ (writing_send (record { mir = named 8; lft = _ })
    (record { mir = named 9; lft = _ }) (param 0 g.row.J) runtime
    (kept.ghosts runtime g.Rt.Paths kept.no_dict kept.no_dict) g.J.Opening g.Rt.Wait g.Rt.Clock _
    (param_send 1 _ c.type_bounds.send-Rt) (param_sync 1 _ c.type_bounds.sync-Rt)))

pub returns-clause-tells : goal.returns-clause-tells
returns-clause-tells g c =
    told_partners _ _ _ c.args.writer.now c.opened.new.writer c.tell-told.new.writer c.tell-told.result
    c.in_ok-sessions.ensures.tells c.tell-told.ensures.writes c.tell-told.ensures.flushed
