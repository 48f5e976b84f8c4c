use Rattle.std.proofs.Common.{◌≡◌, length}
use Rattle.acdm_web.specs.Wanted.{is_numeric}
use Rattle.acdm_web.proofs.request.is_numeric.Given as goal

abbrev pub invariant-loop-byte : goal.invariant-loop-byte
invariant-loop-byte l = is_numeric l.rest ≡ is_numeric l.host

abbrev pub decreases-loop-byte : goal.decreases-loop-byte
decreases-loop-byte l = length l.rest
