-- What would come of a command whose answers of helpers are given.
use Rattle.std.specs.Prelude.{ℕ, ◌≡◌, Bool, true, false, List, [], Some}
use Rattle.bpf_helpers.specs.Promise.{Promise}
use Rattle.acdm_milestones.specs.declared.role.Role.{Role}
use Rattle.acdm_milestones.specs.declared.refusal.Refusal.TheVariants.{Unanswered}
use Rattle.acdm_step.specs.declared.command.Command.{Command}
use Rattle.acdm_step.specs.declared.entry.Verdict.{Verdict}
use Rattle.acdm_step.specs.declared.entry.Verdict.TheVariants.{Refused}
use Rattle.acdm_step.specs.declared.outcome.Outcome.{Outcome}
use Rattle.acdm_step.specs.Commands.{History, is_accepted}
use Rattle.acdm_step.specs.History.{Board, replay, after, left_by}
use Rattle.acdm_step.specs.Verdicts.{verdict_of, verdict_in}

-- an oracle left a question without an answer
abbrev pub lacks_answer : Verdict → Bool
lacks_answer (Refused Unanswered) = true
lacks_answer _ = false

-- the answers are those that the programs of an accepted command use, and there are none where it
-- is refused
pub record UsesAnswers (sigs : List (ℕ × Promise)) (J : History) (role : Role) (moment : ℕ)
    (c : Command) (answers : List ℕ)
    : Type 0 where
  pub used : is_accepted (verdict_of sigs J role c) ≡ true → left_by J c moment answers ≡ Some []
  pub unused : is_accepted (verdict_of sigs J role c) ≡ false → answers ≡ []

-- a plan of a command with these answers: what comes of it, and the board after it
pub record PlansWith (sigs : List (ℕ × Promise)) (J : History) (role : Role) (moment : ℕ)
    (c : Command) (answers : List ℕ) (outcome : Outcome) (board : Board) : Type 0 where
  pub uses : UsesAnswers sigs J role moment c answers
  pub verdict_is : verdict_in outcome ≡ verdict_of sigs J role c
  pub replays : (session : ℕ)
      → board ≡ replay sigs (after J session role moment c (verdict_of sigs J role c) answers)
