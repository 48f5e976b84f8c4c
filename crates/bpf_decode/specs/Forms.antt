-- What an opcode alone says: the opcode of each row.
use Rattle.std.specs.Prelude.{◌≡◌, ◌≢◌, ℕ, ◌+◌, ◌*◌, pos, Option, Some, None}
use Rattle.bpf_decode.specs.declared.op.Op.{Op}
use Rattle.bpf_decode.specs.declared.op.Op.TheVariants as op
use Rattle.bpf_decode.specs.declared.op.Operand.TheVariants.{From, Immediate}
use Rattle.bpf_decode.specs.declared.op.Code.TheVariants as codes
use Rattle.bpf_decode.specs.declared.op.Code.{Code}
use Rattle.bpf_decode.specs.declared.form.OperandSource.{OperandSource}
use Rattle.bpf_decode.specs.declared.form.OperandSource.TheVariants as source
use Rattle.bpf_decode.specs.declared.form.Form.{Form}
use Rattle.bpf_decode.specs.declared.form.Form.TheVariants.{Arith, Negate, End, Ja, Ja32, Jump}
use Rattle.bpf_decode.specs.declared.form.Form.TheVariants.{Call, Exit, Load, LoadSigned, Store}
use Rattle.bpf_decode.specs.declared.form.Form.TheVariants.{Wide}
use Rattle.bpf_decode.specs.Encoding.{class_of, jump_class_of, number_of, sign_of, jump_number_of}
use Rattle.bpf_decode.specs.Encoding.{size_number_of, part_number_of, order_opcode_of}

abbrev pub source_number_of : OperandSource → ℕ
source_number_of source.Immediate = 0
source_number_of source.Register = 1

abbrev pub opcode_of : Form → ℕ
opcode_of (Arith w code s) = 16 * number_of code + 8 * source_number_of s + class_of w
opcode_of (Negate w) = 0x80 + class_of w
opcode_of (End order) = order_opcode_of order
opcode_of Ja = 0x05
opcode_of Ja32 = 0x06
opcode_of (Jump w condition s) =
    16 * jump_number_of condition + 8 * source_number_of s + jump_class_of w
opcode_of Call = 0x85
opcode_of Exit = 0x95
opcode_of (Load size) = 0x61 + 8 * size_number_of size
opcode_of (LoadSigned part) = 0x81 + 8 * part_number_of part
opcode_of (Store size s) = 0x62 + 8 * size_number_of size + source_number_of s
opcode_of Wide = 0x18

-- a form stands for both signs of a quotient, by the unsigned one
abbrev pub IsForm : Form → Type 0
IsForm (Arith w code s) = sign_of code ≡ pos 0
IsForm f = Unit {0}

-- the form of an opcode, or none where no form has it
abbrev pub HasOpcode : Option Form → ℕ → Type 0
HasOpcode (Some f) opcode = IsForm f × (opcode_of f ≡ opcode)
HasOpcode None opcode = (f : Form) → IsForm f → opcode_of f ≢ opcode

abbrev pub unsigned_code : Code → Code
unsigned_code codes.SignedDiv = codes.Div
unsigned_code codes.SignedMod = codes.Mod
unsigned_code code = code

-- the row of an instruction
abbrev pub form_of : Op → Form
form_of (op.Arith w code dst (Immediate v)) = Arith w (unsigned_code code) source.Immediate
form_of (op.Arith w code dst (From src)) = Arith w (unsigned_code code) source.Register
form_of (op.Negate w dst) = Negate w
form_of (op.Extend w part dst src) = Arith w codes.Mov source.Register
form_of (op.End order bytes dst) = End order
form_of (op.Ja offset) = Ja
form_of (op.Ja32 offset) = Ja32
form_of (op.Jump w condition dst (Immediate v) offset) = Jump w condition source.Immediate
form_of (op.Jump w condition dst (From src) offset) = Jump w condition source.Register
form_of (op.Call helper) = Call
form_of op.Exit = Exit
form_of (op.Load size dst base offset) = Load size
form_of (op.LoadSigned part dst base offset) = LoadSigned part
form_of (op.Store size base offset (Immediate v)) = Store size source.Immediate
form_of (op.Store size base offset (From src)) = Store size source.Register
form_of (op.Wide dst value) = Wide
form_of op.Tail = Wide
