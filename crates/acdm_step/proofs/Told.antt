-- What an entry of a legal history tells of what came of its command.
use Rattle.std.proofs.Common.{◌≡◌, ℕ, List, ◌∷◌, Result, Ok, Err, IfOk, sym, ap, ◌∙◌}
use Rattle.acdm_milestones.specs.declared.refusal.Refusal.{Refusal}
use Rattle.bpf_helpers.specs.Promise.{Promise}
use Rattle.acdm_step.specs.declared.entry.Entry.{Entry}
use Rattle.acdm_step.specs.declared.entry.Verdict.TheVariants.{Accepted, Refused}
use Rattle.acdm_step.specs.declared.outcome.Outcome.{Outcome}
use Rattle.acdm_step.specs.declared.outcome.Outcome.TheVariants as outcomes
use Rattle.acdm_step.specs.Commands.{History}
use Rattle.acdm_step.specs.Verdicts.{answer, outcome_of, outcome_with}
use Rattle.acdm_step.specs.History.{Board, IsLegal, replay}
use Rattle.acdm_step.specs.Board.{board_answer}
use Rattle.acdm_step.proofs.Replay.{answer-replay}

module _ (sigs : List (ℕ × Promise)) (J : History) (e : Entry) (legal : IsLegal sigs (e ∷ J)) where
  pub refused_so : (x : Refusal) → e.verdict ≡ Refused x
      → outcomes.Refused x ≡ outcome_of sigs J e.role e.command
  refused_so x is = ap (outcome_with (answer J e.command)) (sym is ∙ legal.4.verdict_is)

  pub accepted_so : (before : Board) (outcome : Outcome) → e.verdict ≡ Accepted
      → before ≡ replay sigs J → outcome ≡ board_answer before e.command
      → outcome ≡ outcome_of sigs J e.role e.command
  accepted_so before outcome is at told =
      told ∙ ap (λ b. board_answer b e.command) at ∙ answer-replay sigs J e.command legal.0
      ∙ ap (outcome_with (answer J e.command)) (sym is ∙ legal.4.verdict_is)

-- the same of what is answered on the board before the entry, where there is memory for it
pub told_accepted : {E : Type 0} (r : Result Outcome E) (before : Board) (e : Entry)
    → e.verdict ≡ Accepted → IfOk r (λ o. o ≡ board_answer before e.command)
    → IfOk r (λ o. (sigs : List (ℕ × Promise)) (J : History) → IsLegal sigs (e ∷ J)
    → before ≡ replay sigs J → o ≡ outcome_of sigs J e.role e.command)
told_accepted (Ok o) before e is told =
    λ sigs J legal at. accepted_so sigs J e legal before o is at told
told_accepted (Err x) before e is told = tt
