-- What comes of a command on the board of a history is what comes of it after the history.
use Rattle.std.proofs.Common.{◌≡◌, ℕ, Bool, true, false, cond, List, refl, sym, ap, subst, ◌∙◌}
use Rattle.std.proofs.lemmas.List.{append_cancel_left}
use Rattle.acdm_milestones.specs.declared.role.Role.{Role}
use Rattle.bpf_helpers.specs.Promise.{Promise}
use Rattle.bpf_helpers.specs.Oracles.{OracleView, Gained}
use Rattle.acdm_step.specs.declared.command.Command.{Command}
use Rattle.acdm_step.specs.declared.outcome.Outcome.{Outcome}
use Rattle.acdm_step.specs.Commands.{History, is_accepted}
use Rattle.acdm_step.specs.InSlots.{with_slots}
use Rattle.acdm_step.specs.Verdicts.{verdict_of, verdict_in}
use Rattle.acdm_step.specs.History.{Board, IsLegal, replay, after}
use Rattle.acdm_step.specs.Board.{board_verdict, board_changed, board_after}
use Rattle.acdm_step.specs.Laws.{verdict_in-outcome_of}
use Rattle.acdm_step.specs.Running.{Comes, answered, unanswered, ComesOf, answered_so}
use Rattle.acdm_step.specs.Running.{unanswered_so}
use Rattle.acdm_step.proofs.Replay.{verdict-replay, outcome-replay, ran-replay, asks-replay}
use Rattle.acdm_step.proofs.Replay.{with_slots-sigs, refused-replay, step-replay}

module _ (sigs : List (ℕ × Promise)) (J : History) (role : Role) (moment : ℕ) (c : Command)
    (from to : OracleView) (outcome : Outcome) where
  told_here : (new : Board) → IsLegal sigs J
      → Comes (replay sigs J) role moment c from to outcome new
      → ComesOf sigs J role moment c from to outcome
  told_here new l (answered used gained counts is ran none new_is) =
      let same : is_accepted (board_verdict (replay sigs J) role c)
      ≡ is_accepted (verdict_of sigs J role c) =
      ap is_accepted (verdict-replay sigs J role c l) in
      answered_so used gained counts (is
      ∙ outcome-replay sigs J role c l)
      (λ d. ran-replay sigs J c moment used l (ran (same ∙ d))) (λ d. none (same ∙ d))
  told_here new l (unanswered is d h new_is) =
      unanswered_so is (sym (ap is_accepted (verdict-replay sigs J role c l))
      ∙ d) (asks-replay sigs J c moment from to l h)

  pub told_of : (b new : Board) → IsLegal sigs J → b ≡ replay sigs J
      → Comes b role moment c from to outcome new → ComesOf sigs J role moment c from to outcome
  told_of b new l e h = told_here new l (subst (λ x. Comes x role moment c from to outcome new) e h)

  board_here : (new : Board) → IsLegal sigs J
      → Comes (replay sigs J) role moment c from to outcome new → (session : ℕ) (answers : List ℕ)
      → (is_accepted (verdict_in outcome) ≡ true → Gained from to answers)
      → new ≡ replay sigs (after J session role moment c (verdict_in outcome) answers)
  board_here new l (answered used gained counts is ran none new_is) session answers given =
      let verdict : verdict_in outcome ≡ verdict_of sigs J role c =
      ap verdict_in (is ∙ outcome-replay sigs J role c l)
      ∙ verdict_in-outcome_of sigs J role c in
      at (is_accepted (verdict_in outcome)) refl verdict
    where
      at : (t : Bool) → is_accepted (verdict_in outcome) ≡ t
          → verdict_in outcome ≡ verdict_of sigs J role c
          → new ≡ replay sigs (after J session role moment c (verdict_in outcome) answers)
      at true d verdict =
          let same : used ≡ answers = append_cancel_left from.log used answers (sym gained
          ∙ given d) in
          new_is ∙ step-replay sigs J session role moment c l used
          ∙ ap (λ us. replay sigs (after J session role moment c (verdict_of sigs J role c) us))
          same
          ∙ ap (λ v. replay sigs (after J session role moment c v answers)) (sym verdict)
      at false d verdict =
          new_is ∙ step-replay sigs J session role moment c l used
          ∙ refused-replay sigs J session role moment c l (verdict_of sigs J role c) used
          (sym (ap is_accepted verdict) ∙ d)
          ∙ sym (refused-replay sigs J session role moment c l (verdict_in outcome) answers d)
  board_here new l (unanswered is d h new_is) session answers given =
      new_is ∙ sym (refused-replay sigs J session role moment c l (verdict_in outcome) answers
      (ap (λ o. is_accepted (verdict_in o)) is))

  pub board_told : (b new : Board) → IsLegal sigs J → b ≡ replay sigs J
      → Comes b role moment c from to outcome new → (session : ℕ) (answers : List ℕ)
      → (is_accepted (verdict_in outcome) ≡ true → Gained from to answers)
      → new ≡ replay sigs (after J session role moment c (verdict_in outcome) answers)
  board_told b new l e h = board_here new l
      (subst (λ x. Comes x role moment c from to outcome new) e h)

-- the signatures of the board stay
after_sigs : (b : Board) (role : Role) (moment : ℕ) (c : Command) (answers : List ℕ)
    → (board_after b role moment c answers).slots.sigs ≡ b.slots.sigs
unfolding board_after
after_sigs b role moment c answers =
    elim (is_accepted (board_verdict b role c))
    as (λ t. (cond t (record {
      records = board_changed b moment c answers;
      slots = with_slots c b.slots;
    }) b).slots.sigs ≡ b.slots.sigs) [
      | true ↦ with_slots-sigs c b.slots
      | false ↦ refl
    ]

pub comes_sigs : (b new : Board) (role : Role) (moment : ℕ) (c : Command) (from to : OracleView)
    (outcome : Outcome) → Comes b role moment c from to outcome new → new.slots.sigs ≡ b.slots.sigs
comes_sigs b new role moment c from to outcome (answered used gained counts is ran none new_is) =
    ap (λ x. x.slots.sigs) new_is ∙ after_sigs b role moment c used
comes_sigs b new role moment c from to outcome (unanswered is d h new_is) =
    ap (λ x. x.slots.sigs) new_is
