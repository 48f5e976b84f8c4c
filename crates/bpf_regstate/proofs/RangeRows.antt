-- Worked ranges: results, narrowing and joins.
use Rattle.std.proofs.Common.{◌≡◌, Some, None, true, false, refl}
use Rattle.bpf_decode.specs.declared.op.Bytes.TheVariants.{Two}
use Rattle.bpf_decode.specs.declared.op.Code.TheVariants.{Add, Sub, Mul, Div, Mod, Or, Xor}
use Rattle.bpf_decode.specs.declared.op.Code.TheVariants.{LeftShift, RightShift, ArithmeticShift}
use Rattle.bpf_decode.specs.declared.op.Code.TheVariants.{Mov}
use Rattle.bpf_decode.specs.declared.op.Condition.TheVariants.{Equal, NotEqual, Above, Below}
use Rattle.bpf_decode.specs.declared.op.ByteOrder.TheVariants.{Little, Big}
use Rattle.bpf_decode.specs.declared.op.Part.TheVariants.{Low8}
use Rattle.bpf_decode.specs.declared.op.Width.TheVariants.{W32, W64}
use Rattle.bpf_regstate.specs.declared.reg.Reg.TheVariants.{Uninit, Known}
use Rattle.bpf_regstate.specs.Ranges.{span, full, filled}
use Rattle.bpf_regstate.specs.Effect.{arith_result, extend_range, negate_range, order_result}
use Rattle.bpf_regstate.specs.Joins.{join_reg}
use Rattle.bpf_regstate.specs.Narrowing.{narrowed}

-- ---- results

sum : arith_result Add W64 (span 1 16) (span 5 5) ≡ span 6 21
sum = refl

-- both ends wrap, or neither
sum_wraps : arith_result Add W64 (span 1 16) (span 0xffffffffffffffff 0xffffffffffffffff)
    ≡ span 0 15
sum_wraps = refl

one_end_wraps : arith_result Add W64 (span 1 16) (span 0xfffffffffffffffe 0xfffffffffffffffe)
    ≡ full W64
one_end_wraps = refl

difference_below_zero : arith_result Sub W64 (span 1 16) (span 17 17)
    ≡ span 0xfffffffffffffff0 0xffffffffffffffff
difference_below_zero = refl

one_end_below_zero : arith_result Sub W64 (span 1 16) (span 2 2) ≡ full W64
one_end_below_zero = refl

product : arith_result Mul W32 (span 1 16) (span 2 3) ≡ span 2 48
product = refl

product_of_too_much : arith_result Mul W32 (span 1 16) (span 0x10000000 0x10000001) ≡ full W32
product_of_too_much = refl

quotient : arith_result Div W64 (span 100 128) (span 1 16) ≡ span 6 128
quotient = refl

quotient_by_perhaps_zero : arith_result Div W64 (span 100 128) (span 0 16) ≡ span 0 128
quotient_by_perhaps_zero = refl

remainder : arith_result Mod W64 (span 100 128) (span 1 16) ≡ span 0 15
remainder = refl

remainder_of_less : arith_result Mod W64 (span 1 16) (span 17 20) ≡ span 1 16
remainder_of_less = refl

bits_of_either : arith_result Or W64 (span 1 16) (span 128 128) ≡ span 128 255
unfolding filled
bits_of_either = refl

bits_of_one : arith_result Xor W64 (span 1 16) (span 0 3) ≡ span 0 31
unfolding filled
bits_of_one = refl

-- a count of 68 is one of 4
shifted_left : arith_result LeftShift W64 (span 1 16) (span 68 68) ≡ span 16 256
shifted_left = refl

shifted_right : arith_result RightShift W64 (span 16 255) (span 4 4) ≡ span 1 15
shifted_right = refl

-- the low halves of two words with one upper half, and of two with different ones
low_halves : arith_result Mov W32 (full W64) (span 0x100000001 0x100000010) ≡ span 1 16
low_halves = refl

some_low_half : arith_result Mov W32 (full W64) (span 0xffffffff 0x100000010) ≡ full W32
some_low_half = refl

-- one word gives the machine's own result
one_word : arith_result ArithmeticShift W64 (span 0xfffffffffffffff0 0xfffffffffffffff0) (span 4 4)
    ≡ span 0xffffffffffffffff 0xffffffffffffffff
one_word = refl

negated_word : negate_range W32 (span 1 1) ≡ span 0xffffffff 0xffffffff
negated_word = refl

no_sign : extend_range W64 Low8 (span 1 127) ≡ span 1 127
no_sign = refl

perhaps_a_sign : extend_range W64 Low8 (span 1 128) ≡ full W64
perhaps_a_sign = refl

low_bytes : order_result Little Two (span 1 0x10000) ≡ span 0 0xffff
low_bytes = refl

turned_bytes : order_result Big Two (span 1 16) ≡ span 0 0xffff
turned_bytes = refl

-- ---- narrowing

above : narrowed Above true (span 1 16) (span 7 7) ≡ Some (span 8 16, span 7 7)
above = refl

not_above : narrowed Above false (span 1 16) (span 7 7) ≡ Some (span 1 7, span 7 7)
not_above = refl

nothing_below_zero : narrowed Below true (span 1 16) (span 0 0) ≡ None
nothing_below_zero = refl

both_sides : narrowed Below true (span 5 16) (span 1 10) ≡ Some (span 5 9, span 6 10)
both_sides = refl

equal : narrowed Equal true (span 1 16) (span 8 20) ≡ Some (span 8 16, span 8 16)
equal = refl

an_end_differs : narrowed NotEqual true (span 1 16) (span 16 16) ≡ Some (span 1 15, span 16 16)
an_end_differs = refl

the_middle_differs : narrowed NotEqual true (span 1 16) (span 8 8) ≡ Some (span 1 16, span 8 8)
the_middle_differs = refl

one_word_never_differs : narrowed NotEqual true (span 128 128) (span 128 128) ≡ None
one_word_never_differs = refl

-- ---- joins

hull : join_reg (Known (span 5 5)) (Known (span 9 9)) ≡ Known (span 5 9)
hull = refl

one_uninit : join_reg (Known (span 5 5)) Uninit ≡ Uninit
one_uninit = refl
