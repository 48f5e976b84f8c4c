use Rattle.std.proofs.Common.{◌≡◌, ◌+◌, length}
use Rattle.acdm_web.specs.Wanted.{count_before}
use Rattle.acdm_web.proofs.request.before.Given as goal

abbrev pub invariant-loop-byte : goal.invariant-loop-byte
invariant-loop-byte l =
    (l.count + count_before l.mark l.rest ≡ count_before l.mark l.text)
    × (l.count + length l.rest ≡ length l.text)

abbrev pub decreases-loop-byte : goal.decreases-loop-byte
decreases-loop-byte l = length l.rest
