use Rattle.std.proofs.Common.{refl}
use Rattle.std.specs.Fmt.{digits}
use Rattle.acdm_feed.proofs.day.Day.first.Goals as goal

pub invariant_of-result : goal.invariant_of-result
unfolding digits
invariant_of-result c = record { text = refl; plain = refl }
