use Rattle.acdm_step.specs.Commands.{told_milestone}
use Rattle.acdm_step.specs.InSlots.{programs_of}
use Rattle.acdm_step.specs.Summaries.{run_record_of}
use Rattle.acdm_step.proofs.Saying.{left_ran, said_say, say_said}
use Rattle.acdm_step.proofs.law.programs_say_what_their_runs_end_with.Goals as goal

pub returns : goal.returns
returns c = record {
  computed = said_say;
  complete = say_said;
  legal = λ sigs J e l d.
      left_ran (programs_of J e.command) (run_record_of J e.command) e.moment (told_milestone e.command)
      e.answers (l.4.used d);
}
