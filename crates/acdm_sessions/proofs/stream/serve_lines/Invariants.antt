use Rattle.std.proofs.Common.{◌≡◌, true}
use Rattle.acdm_lines.specs.Lines.{weight}
use Rattle.acdm_sessions.proofs.Running.{Sofar}
use Rattle.acdm_sessions.specs.Announced.{TellsMade}
use Rattle.acdm_sessions.proofs.stream.serve_lines.Given as goal

abbrev pub invariant-loop-lines : goal.invariant-loop-lines
invariant-loop-lines g l = record {
  sofar : Sofar g.A.Answerer.may
      l.initial.reader.log l.reader.log
      l.lines.window l.lines.reads_left l.initial.who l.who
      l.initial.writer.log l.writer.log;
  same_reader : l.reader.first ≡ l.initial.reader.first;
  same_writer : l.writer.first ≡ l.initial.writer.first;
  read_well : l.reader.faults ≡ l.initial.reader.faults;
  wrote_well : l.writer.faults ≡ l.initial.writer.faults;
  told : g.N.Announcer.is_told ≡ true
      → TellsMade (g.A.Answerer.made l.initial.who) (g.A.Answerer.made l.who) l.initial.writer.told l.writer.told;
}

abbrev pub decreases-loop-lines : goal.decreases-loop-lines
decreases-loop-lines g l = weight l.lines.reads_left l.lines.window
