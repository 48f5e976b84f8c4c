use Rattle.acdm_feed.proofs.Adding.{two_decimal}
use Rattle.acdm_feed.proofs.line.add_two.Goals as goal

pub returns-clause-adds : goal.returns-clause-adds
returns-clause-adds c = rw (two_decimal c.args.n c.requires.0 c.requires.1) c.add.ensures.adds
