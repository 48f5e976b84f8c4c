use Rattle.std.proofs.Common.{false, refl, rules}
use Rattle.acdm_feed.proofs.Adding.{none_added, none_line}
use Rattle.acdm_feed.proofs.line.FeedLine.new.Goals as goal

pub invariant_of-result : goal.invariant_of-result
invariant_of-result c = none_line _ refl (search rules)

pub returns-clause-tokens : goal.returns-clause-tokens
returns-clause-tokens c = none_added record { out = c.new.result; kept = c.len-kept.result; after_value = false; day = c.args.day } (search rules)
