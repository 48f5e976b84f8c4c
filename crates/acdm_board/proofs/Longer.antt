-- A journal with one more entry.
use Rattle.std.proofs.Common.{◌≡◌, ℕ, ◌+◌, ◌<◌, true, false, cond, nat_le, List, [], ◌∷◌, ◌++◌}
use Rattle.std.proofs.Common.{length, reverse, refl, sym, ap, subst, ◌∙◌, arith}
use Rattle.std.proofs.lemmas.Bool.Decides.{nat_tests}
use Rattle.std.proofs.lemmas.List.{reverse-append, length-reverse, length-append}
use Rattle.acdm_milestones.specs.declared.role.Role.{Role}
use Rattle.acdm_record.specs.Fields.{Fields}
use Rattle.bpf_helpers.specs.Oracles.{OracleView, is_full}
use Rattle.acdm_step.specs.declared.command.Command.{Command}
use Rattle.acdm_step.specs.declared.entry.Entry.{Entry}
use Rattle.acdm_step.specs.declared.entry.Verdict.{Verdict}
use Rattle.acdm_step.specs.declared.outcome.Outcome.{Outcome}
use Rattle.acdm_step.specs.Programs.{Programs}
use Rattle.acdm_step.specs.Commands.{told_milestone, is_accepted}
use Rattle.acdm_step.specs.InSlots.{answers_room, programs_of, room_of}
use Rattle.acdm_step.specs.Summaries.{run_record_of}
use Rattle.acdm_step.specs.Verdicts.{verdict_of, outcome_of, verdict_in}
use Rattle.acdm_step.specs.History.{Board, IsChecked, IsInRange, IsLegal, IsAnswered, replay, after}
use Rattle.acdm_step.specs.History.{left_by}
use Rattle.acdm_step.specs.Laws.{verdict_in-outcome_of}
use Rattle.acdm_step.specs.Running.{AsksIn, first, second, ComesOf, answered_so, unanswered_so}
use Rattle.acdm_step.proofs.Runs.{asked_calls, asked_few}
use Rattle.acdm_step.proofs.Saying.{ran_left}
use Rattle.acdm_board.specs.Desk.{DeskView, Keeps, Enters}

-- helpers with room for so many answers decline only where so many were given
declined_full : (ps : Programs) (r : Fields) (moment m room : ℕ) (from to : OracleView)
    → from.declines ≡ (λ given helper arguments. is_full room given)
    → AsksIn ps r moment m from to → is_full room to.log ≡ true
declined_full ps r moment m room from to rule (first h) =
    subst (λ d. d to.log h.2.1 h.2.2 ≡ true) rule h.2.5
declined_full ps r moment m room from to rule (second between r0 same ends h) =
    subst (λ d. d to.log h.2.1 h.2.2 ≡ true) (same.declines ∙ rule) h.2.5

too_few : (room given : ℕ) → nat_le room given ≡ true → given < room → ⊥
too_few room given full few = absurd (grind (arith, nat_tests))

module _ (old new : Board) (xs ys : List Entry) (capacity n session moment : ℕ) (role : Role)
    (c : Command) (outcome : Outcome) (v : Verdict) (answers : List ℕ) (from to : OracleView)
    (keeps : Keeps old xs capacity) (checked : IsChecked old.slots.sigs c)
    (range : IsInRange session moment)
    (begins : from.log ≡ []) (rule : from.declines
    ≡ (λ given helper arguments. is_full (answers_room (reverse xs) c) given))
    (number : n ≡ length xs) (verdict : v ≡ verdict_in outcome)
    (accepted : is_accepted (verdict_in outcome) ≡ true
    → answers ≡ to.log) (refused : is_accepted (verdict_in outcome) ≡ false → answers ≡ [])
    (pushed : ys ≡ xs ++ record {
      number = n;
      session = session;
      role = role;
      moment = moment;
      command = c;
      verdict = v;
      answers = answers;
    } ∷ [])
    (comes : ComesOf old.slots.sigs (reverse xs) role moment c from to outcome)
    (board : (us : List ℕ) → (is_accepted (verdict_in outcome) ≡ true → to.log ≡ from.log ++ us)
    → new ≡ replay old.slots.sigs (after (reverse xs) session role moment c (verdict_in outcome)
    us)) where
  -- with so much room no question is left without an answer
  answered_all : AsksIn (programs_of (reverse xs) c) (run_record_of (reverse xs) c) moment
      (told_milestone c) from to → ⊥
  answered_all h =
      let ps = programs_of (reverse xs) c in
      let r = run_record_of (reverse xs) c in
      let few = asked_few ps r moment (told_milestone c) from to h in
      let none : length from.log ≡ 0 = ap length begins in
      let room : answers_room (reverse xs) c ≡ room_of (reverse xs) c =
      ap (λ b. cond b (room_of (reverse xs) c) 0) (asked_calls ps r moment (told_milestone c) from to h) in
      too_few (answers_room (reverse xs) c) (length to.log)
      (declined_full ps r moment (told_milestone c) (answers_room (reverse xs) c) from to rule h)
      (omega (arith, few, none, room))

  -- so what comes of the command is what the tests say
  outcome_here : ComesOf old.slots.sigs (reverse xs) role moment c from to outcome
      → outcome ≡ outcome_of old.slots.sigs (reverse xs) role c
  outcome_here (answered_so used gained counts is ran none) = is
  outcome_here (unanswered_so is d h) = absurd (answered_all h)

  verdict_here : verdict_in outcome ≡ verdict_of old.slots.sigs (reverse xs) role c
  verdict_here = ap verdict_in (outcome_here comes)
      ∙ verdict_in-outcome_of old.slots.sigs (reverse xs) role c

  history-pushed : reverse ys ≡ after (reverse xs) session role moment c (verdict_in outcome)
      answers
  history-pushed =
      let place : n ≡ length (reverse xs) = number ∙ sym (length-reverse xs) in
      ap reverse pushed ∙ reverse-append xs
      (record {
        number = n;
        session = session;
        role = role;
        moment = moment;
        command = c;
        verdict = v;
        answers = answers;
      } ∷ [])
      ∙ (λ i. record {
        number = place i;
        session = session;
        role = role;
        moment = moment;
        command = c;
        verdict = verdict i;
        answers = answers;
      } ∷ reverse xs)

  right : ComesOf old.slots.sigs (reverse xs) role moment c from to outcome
      → IsAnswered old.slots.sigs (reverse xs) role moment c (verdict_in outcome) answers
  right (answered_so used gained counts is ran none) =
      let all : to.log ≡ used = gained ∙ ap (λ l. l ++ used) begins in
      let r = run_record_of (reverse xs) c in
      record {
        verdict_is = verdict_here;
        used = λ d.
            ap (λ us. left_by (reverse xs) c moment us) (accepted d ∙ all)
            ∙ ran_left (programs_of (reverse xs) c) r moment (told_milestone c) used
            (ran (sym (ap is_accepted verdict_here) ∙ d));
        unused = refused;
      }
  right (unanswered_so is d h) = absurd (answered_all h)

  stands : new ≡ replay old.slots.sigs
      (after (reverse xs) session role moment c (verdict_in outcome) answers)
  stands = board answers (λ d. sym (ap (λ l. l ++ answers) begins ∙ accepted d))

  same_sigs : new.slots.sigs ≡ old.slots.sigs
  same_sigs = ap (λ b. b.slots.sigs) stands

  pub keeps-pushed : length (reverse xs) < capacity → Keeps new ys capacity
  keeps-pushed room =
      let all = length-reverse xs in
      let longer : length ys ≡ length xs + 1 = ap length pushed ∙ length-append xs _ in
      record {
        replays = stands
            ∙ ap (λ s. replay s (after (reverse xs) session role moment c (verdict_in outcome)
            answers)) (sym same_sigs) ∙ ap (replay new.slots.sigs) (sym history-pushed);
        legal = subst (λ s. IsLegal s (reverse ys)) (sym same_sigs)
            (subst (IsLegal old.slots.sigs) (sym history-pushed) (
              keeps.legal,
              refl,
              range,
              checked,
              right comes,
            ));
        fits = omega arith;
      }

  -- the desk before and after, in these cells
  enters_here : (cells : List ℕ) → Enters (record {
    history = reverse xs;
    capacity = capacity;
    sigs = old.slots.sigs;
    cells = cells;
  }) session role moment c (record {
    history = reverse ys;
    capacity = capacity;
    sigs = new.slots.sigs;
    cells = cells;
  }) outcome
  enters_here cells =
      record {
        answers = answers;
        entry = let longer = history-pushed
            ∙ ap (λ o. after (reverse xs) session role moment c o answers) verdict_here in
            λ i. record {
              history = longer i;
              capacity = capacity;
              sigs = same_sigs i;
              cells = cells;
            };
        outcome_is = outcome_here comes;
      }

  pub enters : (cells : List ℕ) (d : DeskView) → record {
    history = reverse xs;
    capacity = capacity;
    sigs = old.slots.sigs;
    cells = cells;
  } ≡ d
      → Enters d session role moment c (record {
        history = reverse ys;
        capacity = capacity;
        sigs = new.slots.sigs;
        cells = cells;
      }) outcome
  enters cells d e =
      subst (λ x. Enters x session role moment c (record {
        history = reverse ys;
        capacity = capacity;
        sigs = new.slots.sigs;
        cells = cells;
      }) outcome) e (enters_here cells)
