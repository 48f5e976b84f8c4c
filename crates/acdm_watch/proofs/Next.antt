-- An entry that comes next after a legal journal.
use Rattle.std.proofs.Common.{◌≡◌, ℕ, ◌+◌, List, [], ◌∷◌, ◌++◌, length, take}
use Rattle.std.proofs.Common.{drop}
use Rattle.std.proofs.Common.{reverse, sym, ap, ◌∙◌, subst}
use Rattle.std.proofs.lemmas.List.{take-append-drop, reverse-append}
use Rattle.bpf_helpers.specs.Promise.{Promise}
use Rattle.acdm_step.specs.declared.entry.Entry.{Entry}
use Rattle.acdm_step.specs.declared.entry.Verdict.{Verdict}
use Rattle.acdm_step.specs.declared.outcome.Outcome.{Outcome}
use Rattle.acdm_step.specs.Commands.{History, is_accepted}
use Rattle.acdm_step.specs.Verdicts.{verdict_of, verdict_in}
use Rattle.acdm_step.specs.History.{Board, IsLegal, after, replay}
use Rattle.acdm_step.specs.Planning.{PlansWith}
use Rattle.acdm_watch.specs.Watching.{IsNumbered}

after_is : (J : History) (e : Entry) (v : Verdict) → e.number ≡ length J → e.verdict ≡ v
    → after J e.session e.role e.moment e.command v e.answers ≡ e ∷ J
after_is J e v number verdict = λ i. record {
  number = sym number i;
  session = e.session;
  role = e.role;
  moment = e.moment;
  command = e.command;
  verdict = sym verdict i;
  answers = e.answers;
} ∷ J

module _ (sigs : List (ℕ × Promise)) (J : History) (e : Entry) (n : ℕ) (number : n ≡ length J) where
  pub legal_next : (outcome : Outcome) (board : Board) → IsLegal sigs J → IsNumbered sigs n e
      → PlansWith sigs J e.role e.moment e.command e.answers outcome board
      → verdict_in outcome ≡ e.verdict
      → IsLegal sigs (e ∷ J) × (board ≡ replay sigs (e ∷ J))
  legal_next outcome board legal numbered plans verdict =
      let same : e.verdict ≡ verdict_of sigs J e.role e.command =
      sym verdict ∙ plans.verdict_is in
      let at : e.number ≡ length J = numbered.number_is ∙ number in (
        (
          legal,
          at,
          numbered.range,
          numbered.checked,
          record {
            verdict_is = same;
            used = λ d. plans.uses.used (sym (ap is_accepted same) ∙ d);
            unused = λ d. plans.uses.unused (sym (ap is_accepted same) ∙ d);
          },
        ),
        plans.replays e.session ∙ ap (replay sigs) (after_is J e _ at same),
      )

append_legal : (sigs : List (ℕ × Promise)) (xs ys : History) → IsLegal sigs (xs ++ ys)
    → IsLegal sigs ys
append_legal sigs [] ys h = h
append_legal sigs (x ∷ xs) ys h = append_legal sigs xs ys h.0

-- what a pass has seen next is legal after what was seen
pub legal_with : (sigs : List (ℕ × Promise)) (xs seen : List Entry) (e : Entry)
    → IsLegal sigs (reverse seen) → take (length xs + 1) seen ≡ xs ++ e ∷ []
    → IsLegal sigs (e ∷ reverse xs)
legal_with sigs xs seen e h same =
    let n = length xs + 1 in
    let cut : reverse seen ≡ reverse (drop n seen) ++ reverse (take n seen) =
    ap reverse (sym (take-append-drop n seen)) ∙ reverse-append (take n seen) (drop n seen) in
    let first : IsLegal sigs (reverse (take n seen)) =
    append_legal sigs (reverse (drop n seen)) (reverse (take n seen))
    (subst (IsLegal sigs) cut h) in
    subst (IsLegal sigs) (ap reverse same ∙ reverse-append xs (e ∷ [])) first
