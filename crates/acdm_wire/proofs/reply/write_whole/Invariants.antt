use Rattle.std.proofs.Common.{◌-◌, ◌≤◌, length, take}
use Rattle.acdm_wire.specs.Writes.{Wrote}
use Rattle.acdm_wire.proofs.reply.write_whole.Given as goal

abbrev pub invariant-loop-at : goal.invariant-loop-at
invariant-loop-at g l = record {
  inside : l.at ≤ length l.bytes;
  wrote : Wrote l.initial.writer l.writer (take l.at l.bytes);
}

abbrev pub decreases-loop-at : goal.decreases-loop-at
decreases-loop-at g l = length l.bytes - l.at
