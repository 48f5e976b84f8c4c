use Rattle.std.proofs.Common.{◌≡◌, ◌+◌, ◌-◌, ◌*◌, ◌^◌, ◌≤◌, ◌++◌, length, take}
use Rattle.acdm_lines.proofs.writing.write_whole.Given as goal

abbrev pub invariant-loop-at : goal.invariant-loop-at
invariant-loop-at g l = record {
  inside : l.at ≤ length l.bytes;
  log : l.writer.log ≡ l.initial.writer.log ++ take l.at l.bytes;
  faults : l.initial.writer.faults ≤ l.writer.faults;
}

-- each write that takes something leaves less to write, each refusal and each signal one less
abbrev pub decreases-loop-at : goal.decreases-loop-at
decreases-loop-at g l = 2 ^ 64 * (length l.bytes - l.at) + l.refusals_left + l.signals_left
