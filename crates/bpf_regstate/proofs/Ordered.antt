-- Each range that comes of ranges with words has words, and words alone.
use Rattle.std.proofs.Common.{◌≡◌, ℕ, ◌+◌, ◌-◌, ◌*◌, ◌/◌, ◌%◌, ◌^◌, ◌<◌, Bool, true, false, ◌&&◌}
use Rattle.std.proofs.Common.{cond, eqb, ltb, leb, Option, Some, None, refl, arith, min, max, lit<}
use Rattle.std.specs.Prelude.{IfSome, ℤ, pos, ◌-ℤ◌}
use Rattle.std.proofs.lemmas.Bool.{ltb-true, leb-true}
use Rattle.std.proofs.Math.Nat.{div-le_self}
use Rattle.bpf_decode.specs.declared.op.Width.{Width}
use Rattle.bpf_decode.specs.declared.op.Width.TheVariants.{W32, W64}
use Rattle.bpf_decode.specs.declared.op.Code.{Code}
use Rattle.bpf_decode.specs.declared.op.Code.TheVariants.{Add, Sub, Mul, Div, SignedDiv, Mod}
use Rattle.bpf_decode.specs.declared.op.Code.TheVariants.{SignedMod, Or, And, Xor, LeftShift}
use Rattle.bpf_decode.specs.declared.op.Code.TheVariants.{RightShift, ArithmeticShift, Mov}
use Rattle.bpf_decode.specs.declared.op.Condition.{Condition}
use Rattle.bpf_decode.specs.declared.op.Condition.TheVariants.{Equal, NotEqual, Above, AtLeast}
use Rattle.bpf_decode.specs.declared.op.Condition.TheVariants.{Below, AtMost, Meets, SignedAbove}
use Rattle.bpf_decode.specs.declared.op.Condition.TheVariants.{SignedAtLeast, SignedBelow}
use Rattle.bpf_decode.specs.declared.op.Condition.TheVariants.{SignedAtMost}
use Rattle.bpf_decode.specs.Words.{bits_of, arith_word}
use Rattle.bpf_helpers.specs.declared.range.Range.{Range}
use Rattle.bpf_regstate.specs.Shape.{IsRange}
use Rattle.bpf_regstate.specs.Ranges.{span, full, modulus, quotient, remainder, are_equal, reduced}
use Rattle.bpf_regstate.specs.Ranges.{wrapped, filled, ranged, arith_range}
use Rattle.bpf_regstate.specs.Holds.{In}
use Rattle.bpf_regstate.specs.Effect.{arith_result}
use Rattle.bpf_regstate.specs.Narrowing.{both_of, without, narrow_equal, narrow_different}
use Rattle.bpf_regstate.specs.Narrowing.{narrow_below, narrow_at_most, swapped, narrowed}
use Rattle.bpf_regstate.proofs.Differences.{remainder_below}
use Rattle.bpf_regstate.proofs.Ones.{filled_is_least}
use Rattle.bpf_regstate.proofs.ResultsInRange.{arith_in, both, reduced_high, width_fits, word_below}

-- ---- results of operations on two words

choice_words : (b : Bool) (r s : Range) → (b ≡ true → r.hi < 2 ^ 64) → (b ≡ false → s.hi < 2 ^ 64)
    → (cond b r s).hi < 2 ^ 64
choice_words true r s f g = f refl
choice_words false r s f g = g refl

pub full_words : (w : Width) → (full w).hi < 2 ^ 64
full_words W32 = lit< tt
full_words W64 = lit< tt

wrapped_words : (w : Width) (lo hi : ℤ) → (wrapped w lo hi).hi < 2 ^ 64
wrapped_words w lo hi =
    choice_words (are_equal (quotient lo (modulus w)) (quotient hi (modulus w)))
    (span (remainder lo (modulus w)) (remainder hi (modulus w))) (full w)
    (λ e. omega (arith, remainder_below w hi, width_fits w)) (λ e. full_words w)

filled_words : (n : ℕ) → n < 2 ^ 64 → filled n < 2 ^ 64
filled_words n h = let l = filled_is_least n h in omega (arith, l.least 64 (omega arith))

ranged_words : (code : Code) (w : Width) (a b : Range) → a.hi < 2 ^ 64 → b.hi < 2 ^ 64
    → (ranged code w a b).hi < 2 ^ 64
ranged_words Add w a b p q = wrapped_words w (pos (a.lo + b.lo)) (pos (a.hi + b.hi))
ranged_words Sub w a b p q = wrapped_words w (pos a.lo -ℤ pos b.hi) (pos a.hi -ℤ pos b.lo)
ranged_words Mul w a b p q =
    choice_words (ltb (a.hi * b.hi) (modulus w)) (span (a.lo * b.lo) (a.hi * b.hi)) (full w)
    (λ e. let f = ltb-true _ _ e in omega (arith, f, width_fits w)) (λ e. full_words w)
ranged_words Div w a b p q =
    choice_words (leb 1 b.lo) (span (a.lo / b.hi) (a.hi / b.lo)) (span 0 a.hi)
    (λ e. omega (arith, div-le_self a.hi b.lo)) (λ e. p)
ranged_words SignedDiv w a b p q = full_words w
ranged_words Mod w a b p q =
    choice_words (leb 1 b.lo) (cond (ltb a.hi b.lo) a (span 0 (min a.hi (b.hi - 1)))) (span 0 a.hi)
    (λ e. choice_words (ltb a.hi b.lo) a (span 0 (min a.hi (b.hi - 1))) (λ f. p) (λ f. omega arith))
    (λ e. p)
ranged_words SignedMod w a b p q = full_words w
ranged_words Or w a b p q = filled_words (max a.hi b.hi) (omega arith)
ranged_words And w a b p q = omega arith
ranged_words Xor w a b p q = filled_words (max a.hi b.hi) (omega arith)
ranged_words LeftShift w a b p q =
    choice_words (eqb b.lo b.hi && ltb (a.hi * 2 ^ (b.lo % bits_of w)) (modulus w))
    (span (a.lo * 2 ^ (b.lo % bits_of w)) (a.hi * 2 ^ (b.lo % bits_of w))) (full w)
    (λ e. let f = ltb-true _ _ (both (eqb b.lo b.hi) _ e).1 in
    omega (arith, f, width_fits w)) (λ e. full_words w)
ranged_words RightShift w a b p q =
    choice_words (eqb b.lo b.hi) (span (a.lo / 2 ^ (b.lo % bits_of w))
    (a.hi / 2 ^ (b.lo % bits_of w))) (span 0 a.hi)
    (λ e. omega (arith, div-le_self a.hi (2 ^ (b.lo % bits_of w)))) (λ e. p)
ranged_words ArithmeticShift w a b p q = full_words w
ranged_words Mov w a b p q = q

arith_words : (code : Code) (w : Width) (a b : Range) → a.hi < 2 ^ 64 → b.hi < 2 ^ 64
    → (arith_range code w a b).hi < 2 ^ 64
arith_words code w a b p q =
    choice_words (eqb a.lo a.hi && eqb b.lo b.hi)
    (span (arith_word code w a.lo b.lo) (arith_word code w a.lo b.lo))
    (ranged code w (reduced w a) (reduced w b))
    (λ e. word_below code w a.lo b.lo)
    (λ e. ranged_words code w (reduced w a) (reduced w b) (reduced_high w a p)
    (reduced_high w b q))

-- the least word of a range lies in it
least_in : (r : Range) → IsRange r → In r r.lo
least_in r i = record { low = omega arith; high = i.ordered }

-- A range that holds a word is ordered, so what is sound gives ordered ranges.
pub arith_ordered : (code : Code) (w : Width) (a b : Range) → IsRange a → IsRange b
    → IsRange (arith_range code w a b)
arith_ordered code w a b i j =
    let there = arith_in code w a b a.lo b.lo (omega (arith, i.ordered, i.words))
    (omega (arith, j.ordered, j.words)) i.words j.words (least_in a i) (least_in b j) in
    record {
      ordered = omega (arith, there.low, there.high);
      words = arith_words code w a b i.words j.words;
    }

pub result_ordered : (code : Code) (w : Width) (a b : Range) → IsRange a → IsRange b
    → IsRange (arith_result code w a b)
result_ordered Mov w a b i j = arith_ordered Mov w b b j j
result_ordered code w a b i j = arith_ordered code w a b i j

-- ---- what a comparison leaves

-- each of two ranges has a word
abbrev pub AreRanges : Option (Range × Range) → Type 0
AreRanges o = IfSome o (λ p. IsRange p.0 × IsRange p.1)

both_ordered : (a b : Range) → a.hi < 2 ^ 64 → b.hi < 2 ^ 64 → AreRanges (both_of a b)
both_ordered a b p q = by_test (leb a.lo a.hi) (leb b.lo b.hi) refl refl
  where
    by_test : (s t : Bool) → leb a.lo a.hi ≡ s → leb b.lo b.hi ≡ t
        → AreRanges (cond (s && t) (Some (a, b)) None)
    by_test true true e f = (
      record { ordered = leb-true _ _ e; words = p },
      record { ordered = leb-true _ _ f; words = q },
    )
    by_test true false e f = tt
    by_test false t e f = tt

swapped_ordered : (o : Option (Range × Range)) → AreRanges o → AreRanges (swapped o)
swapped_ordered None h = h
swapped_ordered (Some p) h = (h.1, h.0)

without_words : (a b : Range) → a.hi < 2 ^ 64 → (without a b).hi < 2 ^ 64
without_words a b p =
    choice_words (eqb b.lo b.hi) (cond (eqb a.lo b.lo) (span (a.lo + 1) a.hi)
    (cond (eqb a.hi b.lo) (span a.lo (a.hi - 1)) a)) a
    (λ e. choice_words (eqb a.lo b.lo) (span (a.lo + 1) a.hi)
    (cond (eqb a.hi b.lo) (span a.lo (a.hi - 1)) a) (λ f. p)
    (λ f. choice_words (eqb a.hi b.lo) (span a.lo (a.hi - 1)) a (λ g. omega arith) (λ g. p)))
    (λ e. p)

below_ordered : (a b : Range) → IsRange a → IsRange b → AreRanges (narrow_below a b)
below_ordered a b i j = by_test (eqb b.hi 0)
  where
    by_test : (t : Bool) → AreRanges
        (cond t None (both_of (span a.lo (min a.hi (b.hi - 1))) (span (max b.lo (a.lo + 1)) b.hi)))
    by_test true = tt
    by_test false = both_ordered (span a.lo (min a.hi (b.hi - 1))) (span (max b.lo (a.lo + 1)) b.hi)
        (omega (arith, i.words)) j.words

at_most_ordered : (a b : Range) → IsRange a → IsRange b → AreRanges (narrow_at_most a b)
at_most_ordered a b i j = both_ordered (span a.lo (min a.hi b.hi)) (span (max b.lo a.lo) b.hi)
    (omega (arith, i.words)) j.words

equal_ordered : (a b : Range) → IsRange a → IsRange b → AreRanges (narrow_equal a b)
equal_ordered a b i j =
    both_ordered (span (max a.lo b.lo) (min a.hi b.hi)) (span (max a.lo b.lo) (min a.hi b.hi))
    (omega (arith, i.words)) (omega (arith, i.words))

different_ordered : (a b : Range) → IsRange a → IsRange b → AreRanges (narrow_different a b)
different_ordered a b i j = both_ordered (without a b) (without b a) (without_words a b i.words)
    (without_words b a j.words)

pub narrowed_ordered : (condition : Condition) (taken : Bool) (a b : Range) → IsRange a → IsRange b
    → AreRanges (narrowed condition taken a b)
narrowed_ordered Equal true a b i j = equal_ordered a b i j
narrowed_ordered Equal false a b i j = different_ordered a b i j
narrowed_ordered NotEqual true a b i j = different_ordered a b i j
narrowed_ordered NotEqual false a b i j = equal_ordered a b i j
narrowed_ordered Below true a b i j = below_ordered a b i j
narrowed_ordered Below false a b i j =
    swapped_ordered (narrow_at_most b a) (at_most_ordered b a j i)
narrowed_ordered AtMost true a b i j = at_most_ordered a b i j
narrowed_ordered AtMost false a b i j = swapped_ordered (narrow_below b a) (below_ordered b a j i)
narrowed_ordered Above true a b i j = swapped_ordered (narrow_below b a) (below_ordered b a j i)
narrowed_ordered Above false a b i j = at_most_ordered a b i j
narrowed_ordered AtLeast true a b i j =
    swapped_ordered (narrow_at_most b a) (at_most_ordered b a j i)
narrowed_ordered AtLeast false a b i j = below_ordered a b i j
narrowed_ordered Meets taken a b i j = (i, j)
narrowed_ordered SignedAbove taken a b i j = (i, j)
narrowed_ordered SignedAtLeast taken a b i j = (i, j)
narrowed_ordered SignedBelow taken a b i j = (i, j)
narrowed_ordered SignedAtMost taken a b i j = (i, j)
