use Rattle.std.proofs.Common.{◌≡◌, ◌==◌, ◌+◌, ◌≤◌, filter, length, take}
use Rattle.acdm_tables.proofs.reading.line_at.Given as goal

abbrev pub invariant-loop-byte : goal.invariant-loop-byte
invariant-loop-byte l = record {
  line : l.line + length (filter (λ byte. byte == 10) l.rest)
      ≡ length (filter (λ byte. byte == 10) (take l.place l.text)) + 1;
  small : l.line + length l.rest ≤ length l.text + 1;
}

abbrev pub decreases-loop-byte : goal.decreases-loop-byte
decreases-loop-byte l = length l.rest
