use Rattle.std.proofs.Common.{rules}
use Rattle.acdm_keeping.proofs.Behind.{keeps_one}
use Rattle.acdm_keeping.proofs.keeper.add_next.Goals as goal

pub returns-clause-added : goal.returns-clause-added
returns-clause-added c =
    keeps_one c.args.sight.now.entries c.take_next.new.sight.entries c.in-Some.entry.now
    c.args.text.now.items c.push_entry.new.text.items (search rules)
    c.in_ok-push_entry.ensures.text c.in_ok-push_entry.ensures.types
