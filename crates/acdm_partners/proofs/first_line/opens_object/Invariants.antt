use Rattle.std.proofs.Common.{◌≡◌, length}
use Rattle.acdm_partners.specs.FirstLine.{opens_object}
use Rattle.acdm_partners.proofs.first_line.opens_object.Given as goal

abbrev pub invariant-loop-byte : goal.invariant-loop-byte
invariant-loop-byte l = opens_object l.rest ≡ opens_object l.text

abbrev pub decreases-loop-byte : goal.decreases-loop-byte
decreases-loop-byte l = length l.rest
