-- The text of each slot (this project's profile; the mnemonics are the names of RFC 9669 in lower
-- case).
use Rattle.std.specs.Prelude.{ℕ, suc, ◌-◌, List, [], ◌++◌, length, replicate, codes, false, ℤ, pos}
use Rattle.std.specs.Prelude.{negsuc}
use Rattle.std.specs.Fmt.{decimal, signed_decimal, digits}
use Rattle.bpf_decode.specs.declared.op.Op.{Op}
use Rattle.bpf_decode.specs.declared.op.Op.TheVariants.{Arith, Negate, Extend, End, Ja, Ja32, Jump}
use Rattle.bpf_decode.specs.declared.op.Op.TheVariants.{Call, Exit, Load, LoadSigned, Store, Wide}
use Rattle.bpf_decode.specs.declared.op.Op.TheVariants.{Tail}
use Rattle.bpf_decode.specs.declared.op.Operand.{Operand}
use Rattle.bpf_decode.specs.declared.op.Operand.TheVariants.{From, Immediate}
use Rattle.bpf_decode.specs.declared.op.Width.{Width}
use Rattle.bpf_decode.specs.declared.op.Width.TheVariants.{W32, W64}
use Rattle.bpf_decode.specs.declared.op.Code.{Code}
use Rattle.bpf_decode.specs.declared.op.Code.TheVariants.{Add, Sub, Mul, Div, SignedDiv, Mod}
use Rattle.bpf_decode.specs.declared.op.Code.TheVariants.{SignedMod, Or, And, Xor, LeftShift}
use Rattle.bpf_decode.specs.declared.op.Code.TheVariants.{RightShift, ArithmeticShift, Mov}
use Rattle.bpf_decode.specs.declared.op.Condition.{Condition}
use Rattle.bpf_decode.specs.declared.op.Condition.TheVariants.{Equal, NotEqual, Above, AtLeast}
use Rattle.bpf_decode.specs.declared.op.Condition.TheVariants.{Below, AtMost, Meets, SignedAbove}
use Rattle.bpf_decode.specs.declared.op.Condition.TheVariants.{SignedAtLeast, SignedBelow}
use Rattle.bpf_decode.specs.declared.op.Condition.TheVariants.{SignedAtMost}
use Rattle.bpf_decode.specs.declared.op.Size.{Size}
use Rattle.bpf_decode.specs.declared.op.Size.TheVariants.{Byte, Half, Word, Double}
use Rattle.bpf_decode.specs.declared.op.Part.{Part}
use Rattle.bpf_decode.specs.declared.op.Part.TheVariants.{Low8, Low16, Low32}
use Rattle.bpf_decode.specs.declared.op.ByteOrder.{ByteOrder}
use Rattle.bpf_decode.specs.declared.op.ByteOrder.TheVariants.{Little, Big, Swap}
use Rattle.bpf_decode.specs.declared.op.Bytes.{Bytes}
use Rattle.bpf_decode.specs.declared.op.Bytes.TheVariants.{Two, Four, Eight}

-- ---- names

abbrev pub code_name : Code → List ℕ
code_name Add = codes "add"
code_name Sub = codes "sub"
code_name Mul = codes "mul"
code_name Div = codes "div"
code_name SignedDiv = codes "sdiv"
code_name Mod = codes "mod"
code_name SignedMod = codes "smod"
code_name Or = codes "or"
code_name And = codes "and"
code_name Xor = codes "xor"
code_name LeftShift = codes "lsh"
code_name RightShift = codes "rsh"
code_name ArithmeticShift = codes "arsh"
code_name Mov = codes "mov"

abbrev pub condition_name : Condition → List ℕ
condition_name Equal = codes "jeq"
condition_name NotEqual = codes "jne"
condition_name Above = codes "jgt"
condition_name AtLeast = codes "jge"
condition_name Below = codes "jlt"
condition_name AtMost = codes "jle"
condition_name Meets = codes "jset"
condition_name SignedAbove = codes "jsgt"
condition_name SignedAtLeast = codes "jsge"
condition_name SignedBelow = codes "jslt"
condition_name SignedAtMost = codes "jsle"

abbrev pub size_name : Size → List ℕ
size_name Byte = codes "b"
size_name Half = codes "h"
size_name Word = codes "w"
size_name Double = codes "dw"

abbrev pub part_name : Part → List ℕ
part_name Low8 = codes "b"
part_name Low16 = codes "h"
part_name Low32 = codes "w"

abbrev pub order_name : ByteOrder → List ℕ
order_name Little = codes "le"
order_name Big = codes "be"
order_name Swap = codes "swap"

-- ---- numbers and operands

abbrev pub width_text : Width → List ℕ
width_text W32 = codes "32"
width_text W64 = codes "64"

-- the bits of the bytes, and of the part
abbrev pub bytes_text : Bytes → List ℕ
bytes_text Two = codes "16"
bytes_text Four = codes "32"
bytes_text Eight = codes "64"

abbrev pub part_text : Part → List ℕ
part_text Low8 = codes "8"
part_text Low16 = codes "16"
part_text Low32 = codes "32"

-- an offset always has its sign
abbrev pub offset_text : ℤ → List ℕ
offset_text (pos n) = codes "+" ++ decimal n
offset_text (negsuc n) = codes "-" ++ decimal (suc n)

-- sixteen lower-case hexadecimal digits
abbrev pub hex_text : ℕ → List ℕ
hex_text n = let shown = digits 16 false n in replicate (16 - length shown) 48 ++ shown

abbrev pub register_text : ℕ → List ℕ
register_text r = codes "r" ++ decimal r

abbrev pub operand_text : Operand → List ℕ
operand_text (From r) = register_text r
operand_text (Immediate v) = signed_decimal v

abbrev pub address_text : ℕ → ℤ → List ℕ
address_text base offset = codes "[" ++ register_text base ++ offset_text offset ++ codes "]"

-- the mark of a jump on the low 32 bits
abbrev pub jump_width_text : Width → List ℕ
jump_width_text W32 = codes "32"
jump_width_text W64 = []

-- the letter of a store: a register's bytes or an immediate's
abbrev pub store_name : Operand → List ℕ
store_name (From r) = codes "stx"
store_name (Immediate v) = codes "st"

-- ---- one slot

abbrev pub op_text : Op → List ℕ
op_text (Arith w code dst operand) =
    code_name code ++ width_text w ++ codes " " ++ register_text dst ++ codes ", "
    ++ operand_text operand
op_text (Negate w dst) = codes "neg" ++ width_text w ++ codes " " ++ register_text dst
op_text (Extend w part dst src) =
    codes "movsx" ++ part_text part ++ codes "_" ++ width_text w ++ codes " " ++ register_text dst
    ++ codes ", " ++ register_text src
op_text (End order bytes dst) =
    order_name order ++ bytes_text bytes ++ codes " " ++ register_text dst
op_text (Ja offset) = codes "ja " ++ offset_text offset
op_text (Ja32 offset) = codes "ja32 " ++ offset_text offset
op_text (Jump w condition dst operand offset) =
    condition_name condition ++ jump_width_text w ++ codes " " ++ register_text dst ++ codes ", "
    ++ operand_text operand ++ codes ", " ++ offset_text offset
op_text (Call helper) = codes "call " ++ decimal helper
op_text Exit = codes "exit"
op_text (Load size dst base offset) =
    codes "ldx" ++ size_name size ++ codes " " ++ register_text dst ++ codes ", "
    ++ address_text base offset
op_text (LoadSigned part dst base offset) =
    codes "ldxs" ++ part_name part ++ codes " " ++ register_text dst ++ codes ", "
    ++ address_text base offset
op_text (Store size base offset value) =
    store_name value ++ size_name size ++ codes " " ++ address_text base offset ++ codes ", "
    ++ operand_text value
op_text (Wide dst value) = codes "lddw " ++ register_text dst ++ codes ", 0x" ++ hex_text value
op_text Tail = codes "-"

abbrev pub line_text : ℕ → Op → List ℕ
line_text slot op = decimal slot ++ codes ": " ++ op_text op
