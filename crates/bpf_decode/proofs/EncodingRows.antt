-- The encoding on outside rows: the bytes of an instruction, as RFC 9669 and the compiler clang
-- have them.
use Rattle.std.proofs.Common.{◌≡◌, [], ◌∷◌, refl}
use Rattle.std.specs.Prelude.{pos, negsuc}
use Rattle.bpf_decode.specs.declared.op.Op.TheVariants.{Arith, Negate, Extend, End, Ja, Ja32, Jump}
use Rattle.bpf_decode.specs.declared.op.Op.TheVariants.{Call, Exit, Load, LoadSigned, Store, Wide}
use Rattle.bpf_decode.specs.declared.op.Op.TheVariants.{Tail}
use Rattle.bpf_decode.specs.declared.op.Operand.TheVariants.{From, Immediate}
use Rattle.bpf_decode.specs.declared.op.Width.TheVariants.{W32, W64}
use Rattle.bpf_decode.specs.declared.op.Code.TheVariants.{Add, SignedDiv, Mov}
use Rattle.bpf_decode.specs.declared.op.Condition.TheVariants.{Above, SignedAtMost}
use Rattle.bpf_decode.specs.declared.op.Size.TheVariants.{Word, Double}
use Rattle.bpf_decode.specs.declared.op.Part.TheVariants.{Low8, Low16}
use Rattle.bpf_decode.specs.declared.op.ByteOrder.TheVariants.{Swap}
use Rattle.bpf_decode.specs.declared.op.Bytes.TheVariants.{Eight}
use Rattle.bpf_decode.specs.Encoding.{encoding}

pub move_and_exit : encoding (Arith W64 Mov 0 (Immediate (pos 0)) ∷ Exit ∷ [])
    ≡ 0xb7 ∷ 0 ∷ 0 ∷ 0 ∷ 0 ∷ 0 ∷ 0 ∷ 0 ∷ 0x95 ∷ 0 ∷ 0 ∷ 0 ∷ 0 ∷ 0 ∷ 0 ∷ 0 ∷ []
move_and_exit = refl

pub negative_immediate : encoding (Arith W64 Add 1 (Immediate (negsuc 7)) ∷ []) ≡ 0x07 ∷ 0x01 ∷ 0
    ∷ 0 ∷ 0xf8 ∷ 0xff ∷ 0xff ∷ 0xff ∷ []
negative_immediate = refl

pub signed_division : encoding (Arith W64 SignedDiv 1 (From 2) ∷ []) ≡ 0x3f ∷ 0x21 ∷ 0x01 ∷ 0 ∷ 0
    ∷ 0 ∷ 0 ∷ 0 ∷ []
signed_division = refl

pub negation : encoding (Negate W32 5 ∷ []) ≡ 0x84 ∷ 0x05 ∷ 0 ∷ 0 ∷ 0 ∷ 0 ∷ 0 ∷ 0 ∷ []
negation = refl

pub sign_extension : encoding (Extend W64 Low8 1 2 ∷ []) ≡ 0xbf ∷ 0x21 ∷ 0x08 ∷ 0 ∷ 0 ∷ 0 ∷ 0 ∷ 0
    ∷ []
sign_extension = refl

pub byte_swap : encoding (End Swap Eight 0 ∷ []) ≡ 0xd7 ∷ 0 ∷ 0 ∷ 0 ∷ 0x40 ∷ 0 ∷ 0 ∷ 0 ∷ []
byte_swap = refl

pub jump_backward : encoding (Ja (negsuc 0) ∷ []) ≡ 0x05 ∷ 0 ∷ 0xff ∷ 0xff ∷ 0 ∷ 0 ∷ 0 ∷ 0 ∷ []
jump_backward = refl

pub long_jump : encoding (Ja32 (pos 3) ∷ []) ≡ 0x06 ∷ 0 ∷ 0 ∷ 0 ∷ 0x03 ∷ 0 ∷ 0 ∷ 0 ∷ []
long_jump = refl

pub jump_if_above : encoding (Jump W64 Above 5 (Immediate (pos 124)) (pos 3) ∷ []) ≡ 0x25 ∷ 0x05
    ∷ 0x03 ∷ 0 ∷ 0x7c ∷ 0 ∷ 0 ∷ 0 ∷ []
jump_if_above = refl

pub jump_on_halves : encoding (Jump W32 SignedAtMost 1 (From 2) (pos 1) ∷ []) ≡ 0xde ∷ 0x21 ∷ 0x01
    ∷ 0 ∷ 0 ∷ 0 ∷ 0 ∷ 0 ∷ []
jump_on_halves = refl

pub call_of_the_last_helper : encoding (Call 0xffffffff ∷ []) ≡ 0x85 ∷ 0 ∷ 0 ∷ 0 ∷ 0xff ∷ 0xff
    ∷ 0xff ∷ 0xff ∷ []
call_of_the_last_helper = refl

pub load : encoding (Load Word 0 1 (pos 124) ∷ []) ≡ 0x61 ∷ 0x10 ∷ 0x7c ∷ 0 ∷ 0 ∷ 0 ∷ 0 ∷ 0 ∷ []
load = refl

pub signed_load : encoding (LoadSigned Low16 0 1 (pos 2) ∷ []) ≡ 0x89 ∷ 0x10 ∷ 0x02 ∷ 0 ∷ 0 ∷ 0 ∷ 0
    ∷ 0 ∷ []
signed_load = refl

pub store_of_a_register : encoding (Store Double 10 (negsuc 7) (From 1) ∷ []) ≡ 0x7b ∷ 0x1a ∷ 0xf8
    ∷ 0xff ∷ 0 ∷ 0 ∷ 0 ∷ 0 ∷ []
store_of_a_register = refl

pub store_of_an_immediate : encoding (Store Word 10 (negsuc 7) (Immediate (pos 5)) ∷ []) ≡ 0x62
    ∷ 0x0a ∷ 0xf8 ∷ 0xff ∷ 0x05 ∷ 0 ∷ 0 ∷ 0 ∷ []
store_of_an_immediate = refl

pub wide_load : encoding (Wide 1 0x200000001 ∷ Tail ∷ [])
    ≡ 0x18 ∷ 0x01 ∷ 0 ∷ 0 ∷ 0x01 ∷ 0 ∷ 0 ∷ 0 ∷ 0 ∷ 0 ∷ 0 ∷ 0 ∷ 0x02 ∷ 0 ∷ 0 ∷ 0 ∷ []
wide_load = refl
