-- The least ones in a row that aren't below a word.
use Rattle.std.proofs.Common.{◌≡◌, ℕ, zero, suc, ◌+◌, ◌-◌, ◌*◌, ◌^◌, ◌<◌, ◌≤◌, Bool, true, false}
use Rattle.std.proofs.Common.{cond, leb, refl, sym, subst, ap, ◌∙◌, arith, ⊎_elim}
use Rattle.std.specs.Int.{leading_zeros, w64}
use Rattle.std.proofs.lemmas.Bool.{leb-true, leb-false, cases_lt}
use Rattle.std.proofs.lemmas.Nat.{leading_length, pow_pos}
use Rattle.std.proofs.Math.Nat.{pow-le-pow_right, pow-succ'}
use Rattle.bpf_regstate.specs.Ranges.{AreLeastOnes, filled, first_ones}

-- so many ones, and no fewer are enough
record Found (n ones : ℕ) : Type 0 where
  pub count : ℕ
  pub are_ones : ones ≡ 2 ^ count - 1
  pub enough : n ≤ 2 ^ count - 1
  pub too_few : (j : ℕ) → j < count → 2 ^ j - 1 < n

search_from : (tries k n : ℕ) → ((j : ℕ) → j < k → 2 ^ j - 1 < n) → n ≤ 2 ^ (tries + k) - 1
    → Found n (first_ones tries k n)
search_from zero k n below enough =
    let same : 0 + k ≡ k = omega arith in
    record {
      count = k;
      are_ones = refl;
      enough = subst (λ (i : ℕ). n ≤ 2 ^ i - 1) same enough;
      too_few = below;
    }
search_from (suc tries) k n below enough =
    let moved : suc tries + k ≡ tries + suc k = omega arith in
    by_test (leb n (2 ^ k - 1)) refl
    (λ here. search_from tries (suc k) n
    (λ j less. ⊎_elim (λ (before : j < k). below j before)
    (λ (same : k ≤ j). let is : k ≡ j = omega arith in
    subst (λ (i : ℕ). 2 ^ i - 1 < n) is here) (cases_lt j k))
    (subst (λ (i : ℕ). n ≤ 2 ^ i - 1) moved enough))
  where
    by_test : (t : Bool) → leb n (2 ^ k - 1) ≡ t
        → (2 ^ k - 1 < n → Found n (first_ones tries (suc k) n))
        → Found n (cond t (2 ^ k - 1) (first_ones tries (suc k) n))
    by_test true e later = record {
      count = k;
      are_ones = refl;
      enough = leb-true _ _ e;
      too_few = below;
    }
    by_test false e later = later (leb-false _ _ e)

found_of : (n : ℕ) → n < 2 ^ 64 → Found n (filled n)
unfolding filled
found_of n h = search_from 64 0 n (λ j less. absurd (omega arith)) (omega arith)

-- no smaller count is enough
at_least : (n count k : ℕ) → ((j : ℕ) → j < count → 2 ^ j - 1 < n) → n ≤ 2 ^ k - 1 → count ≤ k
at_least n count k too_few enough =
    ⊎_elim (λ (less : k < count). absurd (omega (arith, too_few k less)))
    (λ (most : count ≤ k). most) (cases_lt k count)

pub filled_is_least : (n : ℕ) → n < 2 ^ 64 → AreLeastOnes n (filled n)
filled_is_least n h =
    let found = found_of n h in
    record {
      count = found.count;
      are_ones = found.are_ones;
      enough = omega (arith, found.are_ones, found.enough);
      least = λ k enough.
          let most = at_least n found.count k found.too_few enough in
          let up : 2 ^ found.count ≤ 2 ^ k =
          pow-le-pow_right {n = 2} (omega arith) {i = found.count} {j = k} most in
          omega (arith, found.are_ones, up);
    }

-- as a shift of all ones gives them
pub filled_by_zeros : (n : ℕ) → n < 2 ^ 64 → filled n ≡ 2 ^ (64 - leading_zeros w64 n) - 1
filled_by_zeros n h =
    let found = found_of n h in
    let l = leading_length 64 n h in
    let length_is : 64 - leading_zeros w64 n ≡ l.0 = omega (arith, l.1) in
    let up : found.count ≤ l.0 = at_least n found.count l.0 found.too_few (omega (arith, l.2)) in
    let down : l.0 ≤ found.count =
    ⊎_elim
    (λ (less : found.count < l.0).
    let double : 2 ^ suc found.count ≤ 2 ^ l.0 =
    pow-le-pow_right {n = 2} (omega arith) {i = suc found.count} {j = l.0} less in
    let half : 2 ^ suc found.count ≡ 2 * 2 ^ found.count = pow-succ' 2 found.count in
    absurd (omega (arith, double, half, l.3, found.enough, pow_pos found.count)))
    (λ (most : l.0 ≤ found.count). most) (cases_lt found.count l.0) in
    let same : found.count ≡ l.0 = omega arith in
    found.are_ones ∙ ap (λ (k : ℕ). 2 ^ k - 1) (same ∙ sym length_is)
