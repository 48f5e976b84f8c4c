use Rattle.std.proofs.lemmas.Fmt.{decimal_digit}
use Rattle.acdm_feed.proofs.line.add_digit.Goals as goal

pub returns-clause-adds : goal.returns-clause-adds
returns-clause-adds c = rw (decimal_digit c.args.n c.requires) c.add.ensures.adds
