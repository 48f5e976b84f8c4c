-- Forms of instruction at work, by hand from RFC 9669: what r0 is at the exit.
use Rattle.std.proofs.Common.{◌≡◌, ℕ, List, [], ◌∷◌, Some, refl}
use Rattle.std.specs.Prelude.{ℤ, pos, negsuc, replicate, Option}
use Rattle.bpf_decode.specs.declared.op.Op.{Op}
use Rattle.bpf_decode.specs.declared.op.Op.TheVariants.{Arith, Negate, Extend, End, Ja32, Jump}
use Rattle.bpf_decode.specs.declared.op.Op.TheVariants.{Exit, Load, LoadSigned, Store, Wide, Tail}
use Rattle.bpf_decode.specs.declared.op.Operand.TheVariants.{From, Immediate}
use Rattle.bpf_decode.specs.declared.op.Code.TheVariants.{LeftShift, RightShift, ArithmeticShift}
use Rattle.bpf_decode.specs.declared.op.Code.TheVariants.{Div, SignedMod, Mov}
use Rattle.bpf_decode.specs.declared.op.Width.{Width}
use Rattle.bpf_decode.specs.declared.op.Width.TheVariants.{W32, W64}
use Rattle.bpf_decode.specs.declared.op.Size.TheVariants.{Byte, Half, Word, Double}
use Rattle.bpf_decode.specs.declared.op.Part.TheVariants.{Low8, Low16, Low32}
use Rattle.bpf_decode.specs.declared.op.ByteOrder.TheVariants.{Big, Swap}
use Rattle.bpf_decode.specs.declared.op.Bytes.TheVariants.{Two, Four}
use Rattle.bpf_decode.specs.declared.op.Condition.{Condition}
use Rattle.bpf_decode.specs.declared.op.Condition.TheVariants.{Below, Meets, SignedAbove}
use Rattle.bpf_decode.specs.declared.op.Condition.TheVariants.{SignedAtLeast, SignedBelow}
use Rattle.bpf_decode.specs.declared.op.Condition.TheVariants.{SignedAtMost}
use Rattle.bpf_semantics.specs.Machine.{start}
use Rattle.bpf_semantics.specs.Runs.{result_of}

-- its first four bytes are a word with its sign bit set, and so are its third and fourth a
-- half-word
bytes : List ℕ
bytes = 0x81 ∷ 0x7f ∷ 0xff ∷ 0x80 ∷ replicate 124 0

-- what a program comes to without helpers
abbrev comes_to : List Op → Option (ℕ × List ℕ)
comes_to ops = result_of ops [] bytes 5 7 []

abbrev set_to : ℕ → ℤ → Op
set_to register v = Arith W64 Mov register (Immediate v)

-- ---- loads (5.1, 5.2)

signed_byte : comes_to (LoadSigned Low8 0 1 (pos 0) ∷ Exit ∷ []) ≡ Some (0xffffffffffffff81, [])
unfolding start bytes
signed_byte = refl

byte_without_sign : comes_to (LoadSigned Low8 0 1 (pos 1) ∷ Exit ∷ []) ≡ Some (0x7f, [])
unfolding start bytes
byte_without_sign = refl

signed_half : comes_to (LoadSigned Low16 0 1 (pos 2) ∷ Exit ∷ []) ≡ Some (0xffffffffffff80ff, [])
unfolding start bytes
signed_half = refl

signed_word : comes_to (LoadSigned Low32 0 1 (pos 0) ∷ Exit ∷ []) ≡ Some (0xffffffff80ff7f81, [])
unfolding start bytes
signed_word = refl

unsigned_word : comes_to (Load Word 0 1 (pos 0) ∷ Exit ∷ []) ≡ Some (0x80ff7f81, [])
unfolding start bytes
unsigned_word = refl

unsigned_half : comes_to (Load Half 0 1 (pos 0) ∷ Exit ∷ []) ≡ Some (0x7f81, [])
unfolding start bytes
unsigned_half = refl

-- ---- stores (5.1)

-- the lowest byte of the stack, of a negative immediate
lowest_byte : comes_to (Store Byte 10 (negsuc 511) (Immediate (negsuc 1))
    ∷ Load Byte 0 10 (negsuc 511) ∷ Exit ∷ []) ≡ Some (0xfe, [])
unfolding start bytes
lowest_byte = refl

negative_double : comes_to (Store Double 10 (negsuc 7) (Immediate (negsuc 1))
    ∷ Load Double 0 10 (negsuc 7) ∷ Exit ∷ []) ≡ Some (0xfffffffffffffffe, [])
unfolding start bytes
negative_double = refl

-- two bytes of a register into eight that are all ones
half_of_a_register : comes_to (
    Wide 6 0x1122334455667788 ∷ Tail ∷ Store Double 10 (negsuc 7) (Immediate (negsuc 0))
    ∷ Store Half 10 (negsuc 7) (From 6)
    ∷ Load Double 0 10 (negsuc 7) ∷ Exit ∷ []
    ) ≡ Some (0xffffffffffff7788, [])
unfolding start bytes
half_of_a_register = refl

word_of_a_register : comes_to (
    Wide 6 0x1122334455667788 ∷ Tail ∷ Store Double 10 (negsuc 7) (Immediate (pos 0))
    ∷ Store Word 10 (negsuc 7) (From 6)
    ∷ Load Double 0 10 (negsuc 7) ∷ Exit ∷ []
    ) ≡ Some (0x55667788, [])
unfolding start bytes
word_of_a_register = refl

-- ---- arithmetic (4.1, 4.2)

-- a sign-extending move of a byte reads no destination
extended_byte : comes_to (set_to 6 (pos 0x180) ∷ Extend W64 Low8 0 6 ∷ Exit ∷ [])
    ≡ Some (0xffffffffffffff80, [])
unfolding start bytes
extended_byte = refl

extended_to_32 : comes_to (set_to 6 (pos 0x8000) ∷ Extend W32 Low16 0 6 ∷ Exit ∷ [])
    ≡ Some (0xffff8000, [])
unfolding start bytes
extended_to_32 = refl

count_of_40 : comes_to (set_to 0 (pos 3) ∷ Arith W32 LeftShift 0 (Immediate (pos 40)) ∷ Exit ∷ [])
    ≡ Some (0x300, [])
unfolding start bytes
count_of_40 = refl

count_of_64 : comes_to (set_to 0 (pos 3) ∷ Arith W64 RightShift 0 (Immediate (pos 64)) ∷ Exit ∷ [])
    ≡ Some (3, [])
unfolding start bytes
count_of_64 = refl

sign_of_32 : comes_to (set_to 0 (negsuc 15) ∷ Arith W32 ArithmeticShift 0 (Immediate (pos 2)) ∷ Exit
    ∷ []) ≡ Some (0xfffffffc, [])
unfolding start bytes
sign_of_32 = refl

quotient_by_zero : comes_to (set_to 0 (pos 7) ∷ Arith W64 Div 0 (Immediate (pos 0)) ∷ Exit ∷ [])
    ≡ Some (0, [])
unfolding start bytes
quotient_by_zero = refl

-- the dividend stays, and of 32 bits its upper half is zero
remainder_by_zero : comes_to (set_to 0 (negsuc 0) ∷ Arith W32 SignedMod 0 (Immediate (pos 0)) ∷ Exit
    ∷ []) ≡ Some (0xffffffff, [])
unfolding start bytes
remainder_by_zero = refl

negative_of_32 : comes_to (set_to 0 (pos 1) ∷ Negate W32 0 ∷ Exit ∷ []) ≡ Some (0xffffffff, [])
unfolding start bytes
negative_of_32 = refl

swapped : comes_to (set_to 0 (pos 0x11223344) ∷ End Swap Two 0 ∷ Exit ∷ []) ≡ Some (0x4433, [])
unfolding start bytes
swapped = refl

big_endian : comes_to (set_to 0 (pos 0x11223344) ∷ End Big Four 0 ∷ Exit ∷ [])
    ≡ Some (0x44332211, [])
unfolding start bytes
big_endian = refl

-- ---- jumps (4.3)

-- r0 is 1 where the jump is taken
abbrev compared : Width → Condition → ℤ → ℤ → List Op
compared w condition a b =
    set_to 6 a ∷ set_to 7 b ∷ set_to 0 (pos 1) ∷ Jump w condition 6 (From 7) (pos 1)
    ∷ set_to 0 (pos 0) ∷ Exit ∷ []

long_jump : comes_to (set_to 0 (pos 1) ∷ Ja32 (pos 1) ∷ set_to 0 (pos 2) ∷ Exit ∷ []) ≡ Some (1, [])
unfolding start bytes
long_jump = refl

-- one bit in common is enough
some_bit : comes_to (compared W64 Meets (pos 6) (pos 3)) ≡ Some (1, [])
unfolding start bytes
some_bit = refl

no_bit : comes_to (compared W64 Meets (pos 4) (pos 3)) ≡ Some (0, [])
unfolding start bytes
no_bit = refl

equal_at_least : comes_to (compared W64 SignedAtLeast (negsuc 4) (negsuc 4)) ≡ Some (1, [])
unfolding start bytes
equal_at_least = refl

equal_at_most : comes_to (compared W64 SignedAtMost (negsuc 4) (negsuc 4)) ≡ Some (1, [])
unfolding start bytes
equal_at_most = refl

equal_not_above : comes_to (compared W64 SignedAbove (negsuc 4) (negsuc 4)) ≡ Some (0, [])
unfolding start bytes
equal_not_above = refl

equal_not_below : comes_to (compared W64 SignedBelow (negsuc 4) (negsuc 4)) ≡ Some (0, [])
unfolding start bytes
equal_not_below = refl

negative_below : comes_to (compared W64 SignedBelow (negsuc 0) (pos 1)) ≡ Some (1, [])
unfolding start bytes
negative_below = refl

-- as unsigned numbers the other way round
unsigned_above : comes_to (compared W64 Below (negsuc 0) (pos 1)) ≡ Some (0, [])
unfolding start bytes
unsigned_above = refl

-- of the low halves the sign is bit 31
low_halves : comes_to (
    Wide 6 0x5ffffffff ∷ Tail ∷ set_to 7 (pos 0) ∷ set_to 0 (pos 1)
    ∷ Jump W32 SignedBelow 6 (From 7) (pos 1) ∷ set_to 0 (pos 0) ∷ Exit ∷ []
    ) ≡ Some (1, [])
unfolding start bytes
low_halves = refl
