use Rattle.acdm_milestones.proofs.Bits.{word_allowed, word_fits}
use Rattle.acdm_milestones.proofs.reached.mark_reached.Goals as goal

pub set-requires-clause-fits : goal.set-requires-clause-fits
set-requires-clause-fits c = word_fits c.get-reached.result c.args.bit c.get-reached.ensures.allowed
    c.requires

pub set-requires-clause-allowed : goal.set-requires-clause-allowed
set-requires-clause-allowed c =
    word_allowed c.get-reached.result c.args.bit c.get-reached.ensures.allowed c.requires
