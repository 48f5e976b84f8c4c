use denote.Exit.{no}
use denote.Param.Send.{param_send, arg_send}
use Rattle.acdm_serving.proofs.Crossing.{watch_send}
use Rattle.acdm_serving.proofs.peer.begin_watch.Goals as goal

pub begin-requires-send-T : goal.begin-requires-send-T
begin-requires-send-T g c κs within =
    param_send 1 _ (arg_send _ no _ (watch_send _ c.type_bounds.send-Rt))
