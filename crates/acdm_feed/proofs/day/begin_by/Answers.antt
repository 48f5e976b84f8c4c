use Rattle.std.proofs.Common.{refl}
use Rattle.acdm_feed.proofs.Instants.{four_decimal, plain_date}
use Rattle.acdm_feed.proofs.day.begin_by.Goals as goal

pub returns-clause-text : goal.returns-clause-text
returns-clause-text c = rw (four_decimal c.args.year c.requires.least c.requires.four) refl

pub returns-clause-plain : goal.returns-clause-plain
returns-clause-plain c =
    plain_date c.args.year c.args.month c.args.day c.requires.least c.requires.four c.requires.month_bound
    c.requires.day_bound
