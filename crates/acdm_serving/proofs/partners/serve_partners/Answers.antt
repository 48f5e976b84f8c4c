use Rattle.acdm_serving.proofs.Told.{told_partners}
use Rattle.acdm_serving.proofs.partners.serve_partners.Goals as goal

pub returns-clause-tells : goal.returns-clause-tells
returns-clause-tells g c =
    told_partners _ _ _ c.args.writer.now c.arrived.new.writer c.tell-told.new.writer c.tell-told.result
    c.in_ok-sessions.ensures.tells c.tell-told.ensures.writes c.tell-told.ensures.flushed
