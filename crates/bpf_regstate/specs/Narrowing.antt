-- What a conditional jump tells of its operands (this project's profile; RFC 9669, section 4.3, has
-- the conditions).
use Rattle.std.specs.Prelude.{ℕ, ◌+◌, ◌-◌, ◌^◌, Bool, true, false, not, ◌&&◌, ◌==◌, nat_lt, nat_le}
use Rattle.std.specs.Prelude.{min, max, if◌then◌else◌, Option, Some, None, ℤ}
use Rattle.std.specs.Int.{cast_unsigned, w32, w64}
use Rattle.bpf_decode.specs.declared.op.Operand.{Operand}
use Rattle.bpf_decode.specs.declared.op.Operand.TheVariants.{From, Immediate}
use Rattle.bpf_decode.specs.declared.op.Condition.{Condition}
use Rattle.bpf_decode.specs.declared.op.Condition.TheVariants.{Equal, NotEqual, Above, AtLeast}
use Rattle.bpf_decode.specs.declared.op.Condition.TheVariants.{Below, AtMost}
use Rattle.bpf_decode.specs.declared.op.Width.{Width}
use Rattle.bpf_decode.specs.declared.op.Width.TheVariants.{W32, W64}
use Rattle.bpf_helpers.specs.declared.range.Range.{Range}
use Rattle.bpf_regstate.specs.declared.reg.Reg.TheVariants.{Known}
use Rattle.bpf_regstate.specs.Shape.{Shape, known}
use Rattle.bpf_regstate.specs.Ranges.{span, is_single}
use Rattle.bpf_regstate.specs.Effect.{range_of, with_register}

-- ---- what a relation leaves of two ranges

-- both ranges, unless one of them has no word left
abbrev pub both_of : Range → Range → Option (Range × Range)
both_of a b = if nat_le a.lo a.hi && nat_le b.lo b.hi then Some (a, b) else None

-- equal words lie in both ranges
abbrev pub narrow_equal : Range → Range → Option (Range × Range)
narrow_equal a b = both_of (span (max a.lo b.lo) (min a.hi b.hi))
    (span (max a.lo b.lo) (min a.hi b.hi))

-- a without the one word of b, where that is an end of a
abbrev pub without : Range → Range → Range
without a b =
    if is_single b then (if a.lo == b.lo then span (a.lo + 1) a.hi else
    (if a.hi == b.lo then span a.lo (a.hi - 1) else a)) else a

abbrev pub narrow_different : Range → Range → Option (Range × Range)
narrow_different a b = both_of (without a b) (without b a)

-- no word lies below 0
abbrev pub narrow_below : Range → Range → Option (Range × Range)
narrow_below a b = if b.hi == 0 then None else
    both_of (span a.lo (min a.hi (b.hi - 1))) (span (max b.lo (a.lo + 1)) b.hi)

abbrev pub narrow_at_most : Range → Range → Option (Range × Range)
narrow_at_most a b = both_of (span a.lo (min a.hi b.hi)) (span (max b.lo a.lo) b.hi)

-- ---- what a condition leaves of two ranges

abbrev pub swapped : Option (Range × Range) → Option (Range × Range)
swapped None = None
swapped (Some p) = Some (p.1, p.0)

-- what is left where the condition holds, and where it doesn't; the other conditions tell nothing
abbrev pub narrowed : Condition → Bool → Range → Range → Option (Range × Range)
narrowed Equal true a b = narrow_equal a b
narrowed Equal false a b = narrow_different a b
narrowed NotEqual true a b = narrow_different a b
narrowed NotEqual false a b = narrow_equal a b
narrowed Below true a b = narrow_below a b
narrowed Below false a b = swapped (narrow_at_most b a)
narrowed AtMost true a b = narrow_at_most a b
narrowed AtMost false a b = swapped (narrow_below b a)
narrowed Above true a b = swapped (narrow_below b a)
narrowed Above false a b = narrow_at_most a b
narrowed AtLeast true a b = swapped (narrow_at_most b a)
narrowed AtLeast false a b = narrow_below a b
narrowed condition taken a b = Some (a, b)

-- ---- along an edge of a jump

-- the conditions that narrow: unsigned comparisons
abbrev pub narrows : Condition → Bool
narrows Equal = true
narrows NotEqual = true
narrows Above = true
narrows AtLeast = true
narrows Below = true
narrows AtMost = true
narrows condition = false

-- a comparison of low halves tells of whole words where the upper halves are 0
abbrev pub is_low : Width → Range → Bool
is_low W64 r = true
is_low W32 r = nat_lt r.hi (2 ^ 32)

-- the word of an immediate: it is sign-extended, and among low halves the unsigned number of its 32
-- bits
abbrev pub immediate_word : Width → ℤ → ℕ
immediate_word W32 v = cast_unsigned w32 v
immediate_word W64 v = cast_unsigned w64 v

-- the second range
abbrev pub compared : Width → Shape → Operand → Range
compared w s (From src) = range_of (known s src)
compared w s (Immediate v) = span (immediate_word w v) (immediate_word w v)

abbrev pub same_register : ℕ → Operand → Bool
same_register dst (From src) = dst == src
same_register dst (Immediate v) = false

abbrev pub put_both : Shape → ℕ → Operand → Option (Range × Range) → Option Shape
put_both s dst from None = None
put_both s dst (Immediate v) (Some p) = Some (with_register s dst (Known p.0))
put_both s dst (From src) (Some p) =
    Some (with_register (with_register s dst (Known p.0)) src (Known p.1))

-- The state along the edge where the condition holds, or along the one where it doesn't; none where
-- no words of the two ranges lead there.
abbrev pub refined : Width → Condition → ℕ → Operand → Bool → Shape → Option Shape
refined w condition dst from taken s =
    if narrows condition && not (same_register dst from) && is_low w (range_of (known s dst))
    && is_low w (compared w s from)
    then put_both s dst from (narrowed condition taken (range_of (known s dst)) (compared w s from))
    else Some s
