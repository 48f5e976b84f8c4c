-- What was written of a legal history is taken by an audit.
use Rattle.std.proofs.Common.{◌≡◌, ℕ, Bool, true, List, [], ◌++◌, length, sym, ap, subst, ◌∙◌}
use Rattle.std.proofs.Common.{append_assoc, append-nil, inl, inr, ◌⊎◌}
use Rattle.std.proofs.lemmas.List.{append_cancel_left}
use Rattle.bpf_helpers.specs.Promise.{Promise}
use Rattle.acdm_step.specs.Commands.{History}
use Rattle.acdm_step.specs.History.{IsLegal}
use Rattle.acdm_journal.specs.declared.judge.Clause.{Clause}
use Rattle.acdm_journal.specs.Whole.{AreReadable, IsTextOf, FirstFault, Saves}
use Rattle.acdm_journal.specs.Whole.{GaveLegal, GaveFaulty, GaveOf}
use Rattle.acdm_journal.proofs.OneText.{one_history, no_fault}
use Rattle.acdm_journal.proofs.Readable.{readable}

-- what a reader gave of some bytes that it was to give, and the rest
part_of : (bytes log log_after text : List ℕ) (ended : Bool) → (g : GaveOf bytes log log_after ended)
    → log_after ≡ log ++ text → bytes ≡ text ++ g.rest
part_of bytes log log_after text ended g e =
    append_cancel_left log bytes (text ++ g.rest)
    (g.split ∙ ap (λ l. l ++ g.rest) e ∙ append_assoc log text g.rest)

-- all that it gave, where it has ended
all_of : (bytes log log_after text : List ℕ) (ended : Bool) → (g : GaveOf bytes log log_after ended)
    → log_after ≡ log ++ text → ended ≡ true → bytes ≡ text
all_of bytes log log_after text ended g e end =
    part_of bytes log log_after text ended g e ∙ ap (λ l. text ++ l) (g.whole end)
    ∙ append-nil text

module _ (sigs : List (ℕ × Promise)) (J : History) where
  pub each_readable : (old new : List ℕ) → IsLegal sigs J → Saves J old new → AreReadable sigs J
  each_readable old new legal saves = readable sigs J legal saves.types

  module _ (saved log log_after : List ℕ) (ended : Bool) (legal : IsLegal sigs J)
      (saves : Saves J [] saved) (of : GaveOf saved log log_after ended) where
    text_of : IsTextOf sigs saved J
    text_of = record {
      legal = legal;
      readable = each_readable [] saved legal saves;
      text_is = saves.text;
    }

    pub taken_whole : (n : ℕ) → GaveLegal sigs log log_after ended n → n ≡ length J
    taken_whole n g =
        let all : saved ≡ g.text = all_of saved log log_after g.text ended of g.gave g.at_end in
        let same : J ≡ g.history = one_history sigs g.text J g.history
        (subst (λ t. IsTextOf sigs t J) all text_of) g.is in
        sym (ap length same ∙ g.count_is)

    pub taken_well : (entry : ℕ) (clause : Clause)
        → GaveFaulty sigs log log_after ended entry clause → ⊥
    taken_well entry clause g = none g.stays
      where
        none : (ended ≡ true) ⊎ ((later : List ℕ) → FirstFault sigs (g.text ++ later) entry clause)
            → ⊥
        none (inl end) =
            no_fault sigs g.text J entry clause
            (subst (λ t. IsTextOf sigs t J)
            (all_of saved log log_after g.text ended of g.gave end) text_of)
            g.first
        none (inr stays) =
            no_fault sigs (g.text ++ of.rest) J entry clause
            (subst (λ t. IsTextOf sigs t J)
            (part_of saved log log_after g.text ended of g.gave) text_of)
            (stays of.rest)
