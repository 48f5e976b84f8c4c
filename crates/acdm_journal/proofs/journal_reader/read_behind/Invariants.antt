use Rattle.std.proofs.Common.{◌≡◌, ◌+◌, ◌≤◌}
use Rattle.acdm_lines.specs.Lines.{weight}
use Rattle.acdm_journal.proofs.Sofar.{Sofar}
use Rattle.acdm_journal.proofs.journal_reader.read_behind.Given as goal

abbrev pub invariant-loop-is_line : goal.invariant-loop-is_line
invariant-loop-is_line g l = record {
  sofar : Sofar (g.U.JournalUse.sigs l.fn.to l.fn.place) g.before
      (g.U.JournalUse.has l.fn.to l.fn.place l.to l.place) l.fn.reader.log
      l.reader.log l.lines.window l.lines.reads_left l.entry;
  same : l.reader.first ≡ l.fn.reader.first;
  well : l.reader.faults ≡ l.fn.reader.faults;
  bound : l.entry + weight l.lines.reads_left l.lines.window ≤ l.fn.number + 72058693549555712;
}

abbrev pub decreases-loop-is_line : goal.decreases-loop-is_line
decreases-loop-is_line g l = weight l.lines.reads_left l.lines.window
