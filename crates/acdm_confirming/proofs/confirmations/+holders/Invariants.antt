use Rattle.std.proofs.Common.{length}
use Rattle.acdm_confirming.proofs.confirmations.+holders.Given as goal

abbrev pub decreases-holders : goal.decreases-holders
decreases-holders l = length l.places.now
