use Rattle.std.proofs.Common.{length}
use Rattle.acdm_confirming.proofs.confirmations.+is_told_again.Given as goal

abbrev pub decreases-is_told_again : goal.decreases-is_told_again
decreases-is_told_again l = length l.places.now
