-- What a comparison leaves of two ranges holds the two words.
use Rattle.std.proofs.Common.{◌≡◌, ◌≢◌, ℕ, ◌+◌, ◌-◌, ◌<◌, ◌≤◌, Bool, true, false, not, cond, eqb}
use Rattle.std.proofs.Common.{Option, Some, None, refl, sym, arith, min, max}
use Rattle.std.proofs.lemmas.Bool.{eqb-true, eqb-false, ltb-true, ltb-false, leb-true, leb-false}
use Rattle.std.proofs.lemmas.Bool.{le-leb}
use Rattle.bpf_decode.specs.declared.op.Width.{Width}
use Rattle.bpf_decode.specs.declared.op.Condition.{Condition}
use Rattle.bpf_decode.specs.declared.op.Condition.TheVariants.{Equal, NotEqual, Above, AtLeast}
use Rattle.bpf_decode.specs.declared.op.Condition.TheVariants.{Below, AtMost, Meets, SignedAbove}
use Rattle.bpf_decode.specs.declared.op.Condition.TheVariants.{SignedAtLeast, SignedBelow}
use Rattle.bpf_decode.specs.declared.op.Condition.TheVariants.{SignedAtMost}
use Rattle.bpf_decode.specs.Words.{comparison}
use Rattle.bpf_helpers.specs.declared.range.Range.{Range}
use Rattle.bpf_regstate.specs.Ranges.{span}
use Rattle.bpf_regstate.specs.Holds.{In, Leaves}
use Rattle.bpf_regstate.specs.Narrowing.{both_of, without, narrow_equal, narrow_different}
use Rattle.bpf_regstate.specs.Narrowing.{narrow_below, narrow_at_most, swapped, narrowed}
use Rattle.bpf_regstate.proofs.ResultsInRange.{choice_in}

both_in : (a b : Range) (x y : ℕ) → In a x → In b y → Leaves (both_of a b) x y
both_in a b x y i j =
    let p = le-leb a.lo a.hi (omega arith) in
    let q = le-leb b.lo b.hi (omega arith) in
    rw (p, q) (i, j)

swapped_in : (o : Option (Range × Range)) (x y : ℕ) → Leaves o x y → Leaves (swapped o) y x
swapped_in None x y h = h
swapped_in (Some p) x y h = (h.1, h.0)

equal_in : (a b : Range) (x y : ℕ) → In a x → In b y → x ≡ y → Leaves (narrow_equal a b) x y
equal_in a b x y i j e =
    both_in (span (max a.lo b.lo) (min a.hi b.hi)) (span (max a.lo b.lo) (min a.hi b.hi)) x y
    (record { low = omega arith; high = omega arith })
    (record { low = omega arith; high = omega arith })

without_in : (a b : Range) (x y : ℕ) → In a x → In b y → x ≢ y → In (without a b) x
without_in a b x y i j ne =
    choice_in (eqb b.lo b.hi) (cond (eqb a.lo b.lo) (span (a.lo + 1) a.hi)
    (cond (eqb a.hi b.lo) (span a.lo (a.hi - 1)) a)) a x
    (λ e. let f = eqb-true _ _ e in
    choice_in (eqb a.lo b.lo) (span (a.lo + 1) a.hi) (cond (eqb a.hi b.lo) (span a.lo (a.hi - 1)) a)
    x
    (λ p. let q = eqb-true _ _ p in record { low = omega arith; high = omega arith })
    (λ p. choice_in (eqb a.hi b.lo) (span a.lo (a.hi - 1)) a x
    (λ r. let t = eqb-true _ _ r in record { low = omega arith; high = omega arith })
    (λ r. i)))
    (λ e. i)

-- a choice between nothing and two ranges
choice_leaves : (b : Bool) (o : Option (Range × Range)) (x y : ℕ) → b ≢ true → Leaves o x y
    → Leaves (cond b None o) x y
choice_leaves true o x y ne h = absurd (ne refl)
choice_leaves false o x y ne h = h

different_in : (a b : Range) (x y : ℕ) → In a x → In b y → x ≢ y → Leaves (narrow_different a b) x y
different_in a b x y i j ne = both_in (without a b) (without b a) x y (without_in a b x y i j ne)
    (without_in b a y x j i (λ e. ne (sym e)))

below_in : (a b : Range) (x y : ℕ) → In a x → In b y → x < y → Leaves (narrow_below a b) x y
below_in a b x y i j lt =
    choice_leaves (eqb b.hi 0) (both_of (span a.lo (min a.hi (b.hi - 1)))
    (span (max b.lo (a.lo + 1)) b.hi)) x y
    (λ e. let f = eqb-true _ _ e in absurd (omega arith))
    (both_in (span a.lo (min a.hi (b.hi - 1))) (span (max b.lo (a.lo + 1)) b.hi) x y
    (record { low = omega arith; high = omega arith })
    (record { low = omega arith; high = omega arith }))

at_most_in : (a b : Range) (x y : ℕ) → In a x → In b y → x ≤ y → Leaves (narrow_at_most a b) x y
at_most_in a b x y i j le =
    both_in (span a.lo (min a.hi b.hi)) (span (max b.lo a.lo) b.hi) x y
    (record { low = omega arith; high = omega arith })
    (record { low = omega arith; high = omega arith })

not_true : (b : Bool) → not b ≡ true → b ≡ false
not_true true e = absurd cc
not_true false e = refl

not_false : (b : Bool) → not b ≡ false → b ≡ true
not_false true e = refl
not_false false e = absurd cc

-- the words stay in what is left
pub narrowed_in : (condition : Condition) (taken : Bool) (w : Width) (a b : Range) (x y : ℕ)
    → In a x → In b y → comparison condition w x y ≡ taken
    → Leaves (narrowed condition taken a b) x y
narrowed_in Equal true w a b x y i j e = equal_in a b x y i j (eqb-true _ _ e)
narrowed_in Equal false w a b x y i j e = different_in a b x y i j (eqb-false _ _ e)
narrowed_in NotEqual true w a b x y i j e = different_in a b x y i j (eqb-false _ _ (not_true _ e))
narrowed_in NotEqual false w a b x y i j e = equal_in a b x y i j (eqb-true _ _ (not_false _ e))
narrowed_in Below true w a b x y i j e = below_in a b x y i j (ltb-true _ _ e)
narrowed_in Below false w a b x y i j e =
    swapped_in (narrow_at_most b a) y x (at_most_in b a y x j i (ltb-false _ _ e))
narrowed_in AtMost true w a b x y i j e = at_most_in a b x y i j (leb-true _ _ e)
narrowed_in AtMost false w a b x y i j e =
    swapped_in (narrow_below b a) y x (below_in b a y x j i (leb-false _ _ e))
narrowed_in Above true w a b x y i j e =
    swapped_in (narrow_below b a) y x (below_in b a y x j i (ltb-true _ _ e))
narrowed_in Above false w a b x y i j e = at_most_in a b x y i j (ltb-false _ _ e)
narrowed_in AtLeast true w a b x y i j e =
    swapped_in (narrow_at_most b a) y x (at_most_in b a y x j i (leb-true _ _ e))
narrowed_in AtLeast false w a b x y i j e = below_in a b x y i j (leb-false _ _ e)
narrowed_in Meets taken w a b x y i j e = (i, j)
narrowed_in SignedAbove taken w a b x y i j e = (i, j)
narrowed_in SignedAtLeast taken w a b x y i j e = (i, j)
narrowed_in SignedBelow taken w a b x y i j e = (i, j)
narrowed_in SignedAtMost taken w a b x y i j e = (i, j)
