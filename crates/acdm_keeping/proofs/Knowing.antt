-- Each step of a cell keeps what its passes know.
use Rattle.std.proofs.Common.{◌≡◌, ◌≢◌, ◌≤◌, ℕ, zero, suc, List, [], ◌∷◌, set, true, false, true≢false, refl, sym, ◌∙◌, subst, ⊎_elim, arith}
use Rattle.std.specs.Prelude.{slice_index}
use mathlib.Core.Option.{some, some-ne-none, some-injective}
use lib.ListN.{get_elem?}
use Rattle.crossbeam_utils.specs.Register.{Turns, Forks, Merges}
use Rattle.atomic_table.proofs.Lists.{at_set, at_snoc, set_again}
use Rattle.acdm_keeping.specs.declared.knowledge.Knowledge.{Knowledge}
use Rattle.acdm_keeping.specs.Knowing.{knows, claims, receipt_of, compared, Counted, Raised, Compared}

-- what the rule says of one pass
abbrev Fits : ℕ → ℕ → ℕ → Knowledge → Type 0
Fits seat count by v = (v.keeps ≡ true → (by ≡ seat) × (v.count ≡ count)) × (v.claim ≤ count)

fits_set : (seat count now : ℕ) (views : List Knowledge) (by : ℕ) (w : Knowledge)
    → ((j : ℕ) (u : Knowledge) → j ≢ by → get_elem? views j ≡ some u → Fits seat now j u)
    → Fits seat now by w → (j : ℕ) (u : Knowledge) → get_elem? (set views by w) j ≡ some u → Fits seat now j u
fits_set seat count now views by w others mine j u e =
    ⊎_elim
    (λ (x : (j ≡ by) × (w ≡ u)). subst (λ (y : ℕ × Knowledge). Fits seat now y.0 y.1) (λ i. (sym x.0 i, x.1 i)) mine)
    (λ (x : (j ≢ by) × (get_elem? views j ≡ some u)). others j u x.0 x.1)
    (at_set views by j w u e)

off : false ≡ true → ⊥
off e = true≢false (sym e)

pub begins : (words : List ℕ) → Counted words (knows 0 ∷ [])
begins words = (0, 0, one)
  where
    one : (by : ℕ) (v : Knowledge) → get_elem? (knows 0 ∷ []) by ≡ some v → Fits 0 0 by v
    one zero v e = subst (Fits 0 0 0) (some-injective _ _ e) ((λ _. (refl, refl)), omega arith)
    one (suc by) v e = absurd (some-ne-none v (sym e))

raises : (by all : ℕ) (new : List ℕ) → all ≤ slice_index new 0 → Turns Counted by (knows all) (λ _. new) Raised
raises by all new more words views h at =
    let now = slice_index new 0 in
    let mine = (h.2 by (knows all) at).0 refl in
    let w = knows now in (
      w,
      (
        h.0,
        now,
        fits_set h.0 h.1 now views by w
            (λ j u apart e. ((λ k. absurd (apart (((h.2 j u e).0 k).0 ∙ sym mine.0))), omega (arith, (h.2 j u e).1, mine.1, more)))
            ((λ _. (mine.0, refl)), omega arith),
      ),
      refl,
    )

compares : (by : ℕ) (v : Knowledge) → v.keeps ≡ true → Turns Counted by v (λ x. x) Compared
compares by v keeps words views h at =
    let mine = h.2 by v at in
    let known = mine.0 keeps in
    let w = knows v.count in
    (w, (h.0, h.1, fits_set h.0 h.1 h.1 views by w (λ j u apart e. h.2 j u e) ((λ _. known), omega arith)), (refl, omega (arith, known.1, mine.1)))

-- a receipt is cut off that claims no more than is kept
gives : (by n : ℕ) (v : Knowledge) → ((views : List Knowledge) (words : List ℕ) (h : Counted words views)
    → get_elem? views by ≡ some v → n ≤ h.1) → Forks Counted by v v (claims n)
gives by n v fits words views h at = (
  h.0,
  h.1,
  λ j u e. ⊎_elim
      (λ was. h.2 j u (subst (λ l. get_elem? l j ≡ some u) (set_again views by v at) was))
      (λ (same : claims n ≡ u). subst (Fits h.0 h.1 j) same ((λ k. absurd (off k)), fits views words h at))
      (at_snoc (set views by v) (claims n) u j e),
)

takes_in : (by all : ℕ) (other : ℕ) (u : Knowledge)
    → Merges Counted by (knows all) other u (compared (knows all) u) (claims 0)
takes_in by all other u words views h at apart there =
    let w = compared (knows all) u in
    let mine = (h.2 by (knows all) at).0 refl in
    let theirs = ⊎_elim (λ (t : (other ≡ by) × (w ≡ u)). absurd (apart t.0)) (λ (t : (other ≢ by) × (get_elem? views other ≡ some u)). h.2 other u t.1) (at_set views by other w u there) in
    (h.0, h.1, fits_set h.0 h.1 h.1 (set views by w) other (claims 0) (λ j v _ e. fits_set h.0 h.1 h.1 views by w (λ i y _ e'. h.2 i y e') ((λ _. mine), theirs.1) j v e) ((λ k. absurd (off k)), omega arith))

-- the same at a view that is known
pub raises_as : (by : ℕ) (v : Knowledge) (all : ℕ) (new : List ℕ) → v ≡ knows all → all ≤ slice_index new 0
    → Turns Counted by v (λ _. new) Raised
raises_as by v all new is more = subst (λ (u : Knowledge). Turns Counted by u (λ _. new) Raised) (sym is) (raises by all new more)

pub compares_as : (by : ℕ) (v : Knowledge) → v.keeps ≡ true → Turns Counted by v (λ x. x) Compared
compares_as = compares

pub keeper_gives : (by : ℕ) (v : Knowledge) (all : ℕ) → v ≡ knows all → Forks Counted by v v (receipt_of v)
keeper_gives by v all is =
    subst (λ (u : Knowledge). Forks Counted by u u (receipt_of u)) (sym is)
    (gives by all (knows all) (λ views words h at. omega (arith, ((h.2 by (knows all) at).0 refl).1)))

pub receipt_gives : (by : ℕ) (v : Knowledge) (n : ℕ) → v ≡ claims n → Forks Counted by v v (receipt_of v)
receipt_gives by v n is =
    subst (λ (u : Knowledge). Forks Counted by u u (receipt_of u)) (sym is)
    (gives by n (claims n) (λ views words h at. (h.2 by (claims n) at).1))

pub takes_in_as : (by : ℕ) (v : Knowledge) (all : ℕ) (other : ℕ) (u : Knowledge) → v ≡ knows all
    → Merges Counted by v other u (compared v u) (claims 0)
takes_in_as by v all other u is =
    subst (λ (x : Knowledge). Merges Counted by x other u (compared x u) (claims 0)) (sym is) (takes_in by all other u)
