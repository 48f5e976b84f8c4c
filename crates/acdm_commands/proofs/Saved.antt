-- A journal, as it is written entry by entry.
use Rattle.std.proofs.Common.{◌≡◌, ℕ, zero, suc, ◌+◌, List, [], ◌∷◌, ◌++◌, take}
use Rattle.std.proofs.Common.{Some, sym, ap, subst, ◌∙◌, arith, append_assoc}
use Rattle.std.specs.Prelude.{reverse, slice_get}
use Rattle.std.proofs.lemmas.List.{reverse-append}
use Rattle.std.proofs.lemmas.Option.{same_Some}
use Rattle.acdm_step.specs.declared.entry.Entry.{Entry}
use Rattle.acdm_step.specs.Commands.{History}
use Rattle.acdm_journal.specs.Text.{entry_text, history_text}
use Rattle.acdm_journal.specs.Ranges.{FitsTypes}
use Rattle.acdm_journal.specs.Whole.{Saves}

take_more : (xs : List Entry) (n : ℕ) (e : Entry) → slice_get xs n ≡ Some e
    → take (suc n) xs ≡ take n xs ++ e ∷ []
take_more [] n e h = absurd (cc)
take_more (x ∷ xs) zero e h = ap (λ y. y ∷ []) (same_Some x e h)
take_more (x ∷ xs) (suc n) e h = ap (λ l. x ∷ l) (take_more xs n e h)

-- the first so many entries, of which the newest stands first
abbrev pub first_of : ℕ → History → History
first_of n J = reverse (take n (reverse J))

one_more : (J : History) (n : ℕ) (e : Entry) → slice_get (reverse J) n ≡ Some e
    → first_of (n + 1) J ≡ e ∷ first_of n J
one_more J n e h =
    let next : n + 1 ≡ suc n = omega arith in
    rw next (ap reverse (take_more (reverse J) n e h)
    ∙ reverse-append (take n (reverse J)) (e ∷ []))

-- one entry more was written
pub saves_more : (J : History) (n : ℕ) (e : Entry) (old between new : List ℕ)
    → slice_get (reverse J) n ≡ Some e → Saves (first_of n J) old between
    → new ≡ between ++ entry_text e → FitsTypes e → Saves (first_of (n + 1) J) old new
saves_more J n e old between new there saves added fits =
    subst (λ K. Saves K old new) (sym (one_more J n e there)) (record {
      text = added ∙ ap (λ l. l ++ entry_text e) saves.text
          ∙ append_assoc old (history_text (first_of n J)) (entry_text e);
      types = (fits, saves.types);
    })
