-- What crates above may cite of these definitions.
use Rattle.std.specs.Prelude.{ℕ, ◌≡◌, List, refl}
use Rattle.bpf_helpers.specs.Promise.{Promise}
use Rattle.acdm_milestones.specs.declared.role.Role.{Role}
use Rattle.acdm_step.specs.declared.command.Command.{Command}
use Rattle.acdm_step.specs.declared.command.Command.TheVariants.{Show}
use Rattle.acdm_step.specs.declared.command.Command.TheVariants as commands
use Rattle.acdm_step.specs.declared.entry.Verdict.{Verdict}
use Rattle.acdm_step.specs.declared.entry.Verdict.TheVariants.{Accepted, Refused}
use Rattle.acdm_step.specs.Commands.{History}
use Rattle.acdm_step.specs.Verdicts.{answer, outcome_with, outcome_of, verdict_of, verdict_in}

says : (J : History) (c : Command) (v : Verdict) → verdict_in (outcome_with (answer J c) v) ≡ v
says J c (Refused x) = refl
says J (Show f) Accepted = refl
says J commands.Alerts Accepted = refl
says J _ Accepted = refl

-- the verdict that an outcome says is the verdict on the command
pub verdict_in-outcome_of : (sigs : List (ℕ × Promise)) (J : History) (role : Role) (c : Command)
    → verdict_in (outcome_of sigs J role c) ≡ verdict_of sigs J role c
verdict_in-outcome_of sigs J role c = says J c (verdict_of sigs J role c)
