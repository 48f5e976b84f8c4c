use Rattle.std.proofs.Common.{length}
use Rattle.acdm_confirming.proofs.confirmations.+first_free.Given as goal

abbrev pub decreases-first_free : goal.decreases-first_free
decreases-first_free l = length l.places.now
