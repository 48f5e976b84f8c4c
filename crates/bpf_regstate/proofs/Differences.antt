-- Integers modulo a width: what a difference comes to among natural numbers.
use Rattle.std.proofs.Common.{◌≡◌, ◌≢◌, ℕ, zero, suc, ◌+◌, ◌-◌, ◌/◌, ◌%◌, ◌<◌, ◌≤◌, ◌⊎◌, inl, inr}
use Rattle.std.proofs.Common.{Bool, true, false, cond, eqb, ltb, refl, sym, ap, arith}
use Rattle.std.specs.Prelude.{ℤ, pos, negsuc, ◌-ℤ◌}
use Rattle.std.proofs.lemmas.Bool.{ltb-true, ltb-false, eqb-true, eqb-false, eq-eqb, ne_eqb}
use Rattle.bpf_decode.specs.declared.op.Width.{Width}
use Rattle.bpf_decode.specs.declared.op.Width.TheVariants.{W32, W64}
use Rattle.bpf_helpers.specs.declared.range.Range.{Range}
use Rattle.bpf_regstate.specs.Ranges.{span, full, modulus, remainder, wrapped}

-- the same of natural numbers
abbrev pub wrapped_numbers : Width → ℕ → ℕ → Range
wrapped_numbers w lo hi =
    cond (eqb (lo / modulus w) (hi / modulus w)) (span (lo % modulus w) (hi % modulus w)) (full w)

-- a difference is a natural number, or lies below 0
abbrev IsDifference : ℕ → ℕ → ℤ → Type 0
IsDifference a b z = ((b ≤ a) × (z ≡ pos (a - b))) ⊎ ((a < b) × (z ≡ negsuc (b - suc a)))

difference : (a b : ℕ) → IsDifference a b (pos a -ℤ pos b)
difference a zero = let same : a + 0 ≡ a - 0 = omega arith in
    inl (omega arith, ap (λ (n : ℕ). pos n) same)
difference a (suc b) = by_test (ltb a (suc b)) refl
  where
    by_test : (t : Bool) → ltb a (suc b) ≡ t → IsDifference a (suc b) (pos a -ℤ pos (suc b))
    by_test true e = inr (ltb-true _ _ e, rw e refl)
    by_test false e = inl (ltb-false _ _ e, rw e refl)

-- with the modulus added, a difference that isn't below 0
record Above (w : Width) (a b : ℕ) : Type 0 where
  pub whole : (a + (modulus w - b)) / modulus w ≡ suc ((a - b) / modulus w)
  pub rest : (a + (modulus w - b)) % modulus w ≡ (a - b) % modulus w

above : (w : Width) (a b : ℕ) → b ≤ a → b ≤ modulus w → Above w a b
above W32 a b le most = record { whole = omega arith; rest = omega arith }
above W64 a b le most = record { whole = omega arith; rest = omega arith }

-- and one that is
record Below (w : Width) (a b : ℕ) : Type 0 where
  pub whole : (a + (modulus w - b)) / modulus w ≡ 0
  pub rest : (a + (modulus w - b)) % modulus w ≡ modulus w - 1 - (b - suc a) % modulus w
  pub down : (b - suc a) / modulus w ≡ 0

below : (w : Width) (a b : ℕ) → a < b → b ≤ modulus w → Below w a b
below W32 a b less most = record { whole = omega arith; rest = omega arith; down = omega arith }
below W64 a b less most = record { whole = omega arith; rest = omega arith; down = omega arith }

same_suc : (a b : ℕ) → eqb (suc a) (suc b) ≡ eqb a b
same_suc a b = by_test (eqb a b) refl
  where
    by_test : (t : Bool) → eqb a b ≡ t → eqb (suc a) (suc b) ≡ t
    by_test true e = let same = eqb-true _ _ e in eq-eqb (suc a) (suc b) (omega arith)
    by_test false e = let other = eqb-false _ _ e in
        ne_eqb (suc a) (suc b) (λ same. other (omega arith))

-- the range of differences, with the modulus added to both ends
pub wrapped_difference : (w : Width) (a b c d : ℕ) → b ≤ modulus w → d ≤ modulus w
    → wrapped w (pos a -ℤ pos b) (pos c -ℤ pos d)
    ≡ wrapped_numbers w (a + (modulus w - b)) (c + (modulus w - d))
wrapped_difference w a b c d first second =
    by_signs (pos a -ℤ pos b) (pos c -ℤ pos d) (difference a b) (difference c d)
  where
    by_signs : (x y : ℤ) → IsDifference a b x → IsDifference c d y
        → wrapped w x y ≡ wrapped_numbers w (a + (modulus w - b)) (c + (modulus w - d))
    by_signs x y (inl p) (inl q) =
        let l = above w a b p.0 first in
        let r = above w c d q.0 second in
        rw (p.1, q.1, l.whole, r.whole, l.rest, r.rest)
        (ap (λ (t : Bool). cond t (span ((a - b) % modulus w) ((c - d) % modulus w)) (full w))
        (sym (same_suc ((a - b) / modulus w) ((c - d) / modulus w))))
    by_signs x y (inl p) (inr q) =
        let l = above w a b p.0 first in
        let r = below w c d q.0 second in
        let other : suc ((a - b) / modulus w) ≢ 0 = λ same. absurd (omega arith) in
        rw (p.1, q.1, l.whole, r.whole)
        (ap (λ (t : Bool). cond t (span ((a + (modulus w - b)) % modulus w)
        ((c + (modulus w - d)) % modulus w)) (full w))
        (sym (ne_eqb (suc ((a - b) / modulus w)) 0 other)))
    by_signs x y (inr p) (inl q) =
        let l = below w a b p.0 first in
        let r = above w c d q.0 second in
        let other : 0 ≢ suc ((c - d) / modulus w) = λ same. absurd (omega arith) in
        rw (p.1, q.1, l.whole, r.whole)
        (ap (λ (t : Bool). cond t (span ((a + (modulus w - b)) % modulus w)
        ((c + (modulus w - d)) % modulus w)) (full w))
        (sym (ne_eqb 0 (suc ((c - d) / modulus w)) other)))
    by_signs x y (inr p) (inr q) =
        let l = below w a b p.0 first in
        let r = below w c d q.0 second in
        rw (p.1, q.1, l.whole, r.whole, l.down, r.down, l.rest, r.rest) refl

pub remainder_below : (w : Width) (z : ℤ) → remainder z (modulus w) < modulus w
remainder_below W32 (pos n) = omega arith
remainder_below W32 (negsuc n) = omega arith
remainder_below W64 (pos n) = omega arith
remainder_below W64 (negsuc n) = omega arith
