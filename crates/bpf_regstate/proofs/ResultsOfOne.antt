-- The range of the results of operations with one operand, and of loads, holds each result.
use Rattle.std.proofs.Common.{◌≡◌, ℕ, ◌-◌, ◌*◌, ◌%◌, ◌^◌, ◌<◌, true, cond, eqb, ltb, refl, ap, ◌∙◌}
use Rattle.std.proofs.Common.{arith}
use Rattle.std.proofs.lemmas.Int.{ints}
use Rattle.std.proofs.lemmas.Bool.{ltb-true}
use Rattle.bpf_decode.specs.declared.op.Width.{Width}
use Rattle.bpf_decode.specs.declared.op.Width.TheVariants.{W32, W64}
use Rattle.bpf_decode.specs.declared.op.Part.{Part}
use Rattle.bpf_decode.specs.declared.op.Part.TheVariants.{Low8, Low16, Low32}
use Rattle.bpf_decode.specs.declared.op.ByteOrder.{ByteOrder}
use Rattle.bpf_decode.specs.declared.op.ByteOrder.TheVariants.{Little, Big, Swap}
use Rattle.bpf_decode.specs.declared.op.Bytes.{Bytes}
use Rattle.bpf_decode.specs.declared.op.Bytes.TheVariants.{Two, Four, Eight}
use Rattle.bpf_decode.specs.Words.{low, negated, extended, ordered, turned, part_bits, count_of}
use Rattle.bpf_helpers.specs.declared.range.Range.{Range}
use Rattle.bpf_regstate.specs.Shape.{IsRange}
use Rattle.bpf_regstate.specs.Ranges.{span, full, modulus, reduced}
use Rattle.bpf_regstate.specs.Holds.{In}
use Rattle.bpf_regstate.specs.Effect.{negate_range, extend_range, order_range, order_result}
use Rattle.bpf_regstate.proofs.ResultsInRange.{choice_in, full_in, low_below, reduced_in}
use Rattle.bpf_regstate.proofs.ResultsInRange.{same_single}

-- the result of the one word of a range
single_in : (a : Range) (x v : ℕ) (f : ℕ → ℕ) → f x ≡ v → eqb a.lo a.hi ≡ true → In a x
    → In (span (f a.lo) (f a.lo)) v
single_in a x v f e t i =
    let s = same_single a x t i in
    let same : f a.lo ≡ v = ap f s ∙ e in
    record { low = omega arith; high = omega arith }

-- ---- negation

pub negate_in : (w : Width) (a : Range) (x : ℕ) → In a x → In (negate_range w a) (negated w x)
negate_in w a x i =
    choice_in (eqb a.lo a.hi) (span (negated w a.lo) (negated w a.lo)) (full w) (negated w x)
    (λ e. single_in a x (negated w x) (negated w) refl e i)
    (λ e. full_in w (negated w x) (low_below w (modulus w - low w x)))

-- ---- sign extension

pub extended_below : (w : Width) (part : Part) (x : ℕ) → extended w part x < modulus w
extended_below W32 Low8 x = omega (arith, ints)
extended_below W32 Low16 x = omega (arith, ints)
extended_below W32 Low32 x = omega (arith, ints)
extended_below W64 Low8 x = omega (arith, ints)
extended_below W64 Low16 x = omega (arith, ints)
extended_below W64 Low32 x = omega (arith, ints)

-- what isn't negative stays
extended_same : (w : Width) (part : Part) (x : ℕ) → x < 2 ^ 64 → low w x < 2 ^ (part_bits part - 1)
    → extended w part x ≡ low w x
extended_same W32 Low8 x h p = omega (arith, ints)
extended_same W32 Low16 x h p = omega (arith, ints)
extended_same W32 Low32 x h p = omega (arith, ints)
extended_same W64 Low8 x h p = omega (arith, ints)
extended_same W64 Low16 x h p = omega (arith, ints)
extended_same W64 Low32 x h p = omega (arith, ints)

pub extend_in : (w : Width) (part : Part) (b : Range) (x : ℕ) → IsRange b → In b x
    → In (extend_range w part b) (extended w part x)
extend_in w part b x r i =
    let word : x < 2 ^ 64 = omega (arith, i.high, r.words) in
    choice_in (eqb b.lo b.hi) (span (extended w part b.lo) (extended w part b.lo))
    (cond (ltb (reduced w b).hi (2 ^ (part_bits part - 1))) (reduced w b) (full w))
    (extended w part x)
    (λ e. single_in b x (extended w part x) (extended w part) refl e i)
    (λ e. choice_in (ltb (reduced w b).hi (2 ^ (part_bits part - 1))) (reduced w b) (full w)
    (extended w part x)
    (λ f.
    let there = reduced_in w b x word i in
    let same = extended_same w part x word (omega (arith, there.high, ltb-true _ _ f)) in
    rw same there)
    (λ f. full_in w (extended w part x) (extended_below w part x)))

-- ---- byte order

pub turned_below : (n : Bytes) (x : ℕ) → turned n x < 2 ^ (8 * count_of n)
turned_below Two x = omega arith
turned_below Four x = omega arith
turned_below Eight x = omega arith

pub low_bytes : (n : Bytes) (x : ℕ) → x % 2 ^ (8 * count_of n) < 2 ^ (8 * count_of n)
low_bytes Two x = omega arith
low_bytes Four x = omega arith
low_bytes Eight x = omega arith

low_same : (n : Bytes) (x : ℕ) → x < 2 ^ (8 * count_of n) → x % 2 ^ (8 * count_of n) ≡ x
low_same Two x h = omega arith
low_same Four x h = omega arith
low_same Eight x h = omega arith

bytes_in : (n : Bytes) (v : ℕ) → v < 2 ^ (8 * count_of n) → In (span 0 (2 ^ (8 * count_of n) - 1)) v
bytes_in n v h = record { low = omega arith; high = omega arith }

order_in : (order : ByteOrder) (n : Bytes) (a : Range) (x : ℕ) → In a x
    → In (order_range order n a) (ordered order n x)
order_in Little n a x i =
    choice_in (ltb a.hi (2 ^ (8 * count_of n))) a (span 0 (2 ^ (8 * count_of n) - 1))
    (x % 2 ^ (8 * count_of n))
    (λ e. let less = ltb-true _ _ e in let same = low_same n x (omega (arith, i.high, less)) in
    rw same i)
    (λ e. bytes_in n (x % 2 ^ (8 * count_of n)) (low_bytes n x))
order_in Big n a x i = bytes_in n (turned n x) (turned_below n x)
order_in Swap n a x i = bytes_in n (turned n x) (turned_below n x)

pub order_result_in : (order : ByteOrder) (n : Bytes) (a : Range) (x : ℕ) → In a x
    → In (order_result order n a) (ordered order n x)
order_result_in order n a x i =
    choice_in (eqb a.lo a.hi) (span (ordered order n a.lo) (ordered order n a.lo))
    (order_range order n a) (ordered order n x)
    (λ e. single_in a x (ordered order n x) (ordered order n) refl e i)
    (λ e. order_in order n a x i)
