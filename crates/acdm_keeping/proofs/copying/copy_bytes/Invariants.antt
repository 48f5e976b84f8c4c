use Rattle.std.proofs.Common.{◌≡◌, ℕ, ◌+◌}
use Rattle.acdm_keeping.specs.Copied.{Copies}
use Rattle.acdm_keeping.proofs.copying.copy_bytes.Given as goal

abbrev pub invariant-loop : goal.invariant-loop
invariant-loop g l = (done : ℕ) × (done + l.left ≡ l.bytes)
    × Copies done l.initial.reader.log l.reader.log l.initial.writer.log l.writer.log
