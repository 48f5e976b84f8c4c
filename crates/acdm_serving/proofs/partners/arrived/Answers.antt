use Rattle.acdm_serving.proofs.Failing.{untold}
use Rattle.acdm_serving.proofs.partners.arrived.Goals as goal

pub returns-clause-fails : goal.returns-clause-fails
returns-clause-fails g c =
    untold c.args.writer.now c.announce.new.writer c.accept_all.result c.accept_all.ensures.fails
