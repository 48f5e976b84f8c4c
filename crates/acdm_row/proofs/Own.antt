-- The entries of a pass, in a journal that grows.
use Rattle.std.proofs.Common.{◌≡◌, ℕ, zero, suc, ◌<◌, ◌≤◌, List, [], ◌∷◌, ◌++◌, length, take, drop}
use Rattle.std.proofs.Common.{subst, refl, sym, ap, ◌∙◌, arith, append_assoc, Some}
use Rattle.std.specs.Prelude.{slice_get, option_to_list, reverse}
use Rattle.std.proofs.lemmas.List.{take-append-le, take-append-drop}
use Rattle.acdm_step.specs.declared.entry.Entry.{Entry}
use Rattle.acdm_step.specs.History.{IsLegal}
use Rattle.acdm_milestones.specs.declared.role.Role.{Role}
use Rattle.acdm_row.specs.Views.{RowView, entries_at, AreBelow, AreAbove, AreOf, AreRising}

get_more : (xs more : List Entry) (k : ℕ) → k < length xs → slice_get (xs ++ more) k
    ≡ slice_get xs k
get_more [] more k below = absurd (omega arith)
get_more (x ∷ xs) more zero below = refl
get_more (x ∷ xs) more (suc k) below = get_more xs more k (omega arith)

get_seam : (xs : List Entry) (y : Entry) → slice_get (xs ++ y ∷ []) (length xs) ≡ Some y
get_seam [] y = refl
get_seam (x ∷ xs) y = get_seam xs y

pub entries_more : (xs more : List Entry) (ks : List ℕ) → AreBelow (length xs) ks → entries_at (xs
    ++ more) ks ≡ entries_at xs ks
entries_more xs more [] h = refl
entries_more xs more (k ∷ ks) h = λ i. option_to_list (get_more xs more k h.0 i)
    ++ entries_more xs more ks h.1 i

pub entries_append : (xs : List Entry) (ks js : List ℕ) → entries_at xs (ks ++ js)
    ≡ entries_at xs ks ++ entries_at xs js
entries_append xs [] js = refl
entries_append xs (k ∷ ks) js = ap (λ es. option_to_list (slice_get xs k)
    ++ es) (entries_append xs ks js) ∙ sym (append_assoc (option_to_list (slice_get xs k))
    (entries_at xs ks) (entries_at xs js))

pub below_push : (n m : ℕ) (ks : List ℕ) (k : ℕ) → AreBelow n ks → n ≤ m → k < m → AreBelow m (ks
    ++ k ∷ [])
below_push n m [] k h le lt = (lt, tt)
below_push n m (j ∷ ks) k h le lt = (omega arith, below_push n m ks k h.1 le lt)

above_push : (n k : ℕ) (ks : List ℕ) → AreAbove n ks → n < k → AreAbove n (ks ++ k ∷ [])
above_push n k [] h lt = (lt, tt)
above_push n k (j ∷ ks) h lt = (h.0, above_push n k ks h.1 lt)

-- a number that all others are below goes behind them
pub rising_push : (n : ℕ) (ks : List ℕ) (k : ℕ) → AreBelow n ks → AreRising ks → n ≤ k
    → AreRising (ks ++ k ∷ [])
rising_push n [] k below h le = (tt, tt)
rising_push n (j ∷ ks) k below h le =
    (above_push j k ks h.0 (omega (arith, below.0, le)), rising_push n ks k below.1 h.1 le)

pub of_caller_push : (session : ℕ) (role : Role) (es : List Entry) (e : Entry)
    → AreOf session role es → e.session ≡ session → e.role ≡ role
    → AreOf session role (es ++ e ∷ [])
of_caller_push session role [] e h s r = (s, r, tt)
of_caller_push session role (x ∷ es) e h s r =
    (h.0, h.1, of_caller_push session role es e h.2 s r)

-- a pass that saw xs, when the journal xs ++ between gets y
pub entries_push : (xs between : List Entry) (y : Entry) (ks : List ℕ) → AreBelow (length xs) ks
    → entries_at ((xs ++ between) ++ y ∷ []) (ks ++ length (xs ++ between) ∷ []) ≡ entries_at xs ks
    ++ y ∷ []
entries_push xs between y ks h =
    let all = (xs ++ between) ++ y ∷ [] in
    let last : option_to_list (slice_get all (length (xs ++ between))) ++ []
    ≡ y ∷ [] = ap (λ o. option_to_list o ++ []) (get_seam (xs ++ between) y) in
    entries_append all ks (length (xs ++ between) ∷ [])
    ∙ (λ i. (ap (λ (es : List Entry). entries_at es ks) (append_assoc xs between (y ∷ []))
    ∙ entries_more xs (between ++ y ∷ []) ks h) i ++ last i)

-- the same, where the pass saw a beginning of what the journal is then
pub entries_grown : (xs journal : List Entry) (y : Entry) (ks : List ℕ) → AreBelow (length xs) ks
    → length xs ≤ length journal
    → xs ≡ take (length xs) (journal ++ y ∷ []) → entries_at (journal ++ y ∷ []) (ks
    ++ length journal ∷ []) ≡ entries_at xs ks ++ y ∷ []
entries_grown xs journal y ks h short begins =
    let n = length xs in
    let cut : xs ≡ take n journal = begins ∙ take-append-le n journal (y ∷ []) short in
    let whole : xs ++ drop n journal ≡ journal = ap (λ es. es ++ drop n journal) cut
    ∙ take-append-drop n journal in
    subst (λ (es : List Entry). entries_at (es ++ y ∷ []) (ks ++ length es ∷ []) ≡ entries_at xs ks
    ++ y ∷ []) whole (entries_push xs (drop n journal) y ks h)

-- the same entries, where the pass has seen a beginning of what it is shown
pub entries_shown : (xs ys : List Entry) (ks : List ℕ) → AreBelow (length xs) ks
    → xs ≡ take (length xs) ys → entries_at ys ks ≡ entries_at xs ks
entries_shown xs ys ks h begins =
    let n = length xs in
    sym (ap (λ es. entries_at es ks) (take-append-drop n ys))
    ∙ (λ i. entries_at (sym begins i ++ drop n ys) ks) ∙ entries_more xs (drop n ys) ks h

pub below_more : (n m : ℕ) (ks : List ℕ) → AreBelow n ks → n ≤ m → AreBelow m ks
below_more n m [] h le = tt
below_more n m (k ∷ ks) h le = (omega arith, below_more n m ks h.1 le)

get_length : (xs : List Entry) (k : ℕ) → k < length xs
    → length (option_to_list (slice_get xs k)) ≡ 1
get_length [] k below = absurd (omega arith)
get_length (x ∷ xs) zero below = refl
get_length (x ∷ xs) (suc k) below = get_length xs k (omega arith)

-- what is legal of a row and a journal is legal of the same under other names
pub same_legal : (r s : RowView) (xs ys : List Entry) → r ≡ s → xs ≡ ys
    → IsLegal s.sigs (reverse ys) → IsLegal r.sigs (reverse xs)
same_legal r s xs ys p q h =
    subst (λ (v : RowView). IsLegal v.sigs (reverse xs)) (sym p)
    (subst (λ es. IsLegal s.sigs (reverse es)) (sym q) h)
