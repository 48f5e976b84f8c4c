use Rattle.std.proofs.Common.{◌≡◌, ◌-◌, ◌≤◌}
use Rattle.acdm_journal.specs.Whole.{Saves}
use Rattle.acdm_commands.proofs.Saved.{first_of}
use Rattle.acdm_commands.proofs.saving.write_journal.Given as goal

abbrev pub invariant-loop-number : goal.invariant-loop-number
invariant-loop-number g l = record {
  same : l.desk ≡ l.initial.desk;
  wrote : Saves (first_of l.number l.initial.desk.history) l.initial.writer.log l.writer.log;
  below : l.number ≤ l.count;
  faults : l.initial.writer.faults ≤ l.writer.faults;
}

abbrev pub decreases-loop-number : goal.decreases-loop-number
decreases-loop-number g l = l.count - l.number
