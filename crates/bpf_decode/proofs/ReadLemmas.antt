-- An instruction is read again from its fields: no two instructions have the same.
use Rattle.std.proofs.Common.{◌≡◌, ℕ, ◌+◌, ◌*◌, ◌/◌, ◌%◌, ◌^◌, ◌<◌, List, ◌++◌, drop, cond, eqb}
use Rattle.std.proofs.Common.{refl, ap, ◌∙◌, append_assoc, arith}
use Rattle.std.specs.Prelude.{ℤ, pos}
use Rattle.std.specs.Int.{cast_signed, cast_unsigned, w16, w32}
use Rattle.std.specs.Int.RustNames.{FitsSigned}
use Rattle.std.proofs.lemmas.Int.{of_z-to_z}
use Rattle.std.proofs.Math.Facts.{sfits_to_z}
use Rattle.bpf_decode.specs.declared.insn.Insn.{Insn}
use Rattle.bpf_decode.specs.declared.op.Op.{Op}
use Rattle.bpf_decode.specs.declared.op.Op.TheVariants as op
use Rattle.bpf_decode.specs.declared.op.Operand.TheVariants.{From, Immediate}
use Rattle.bpf_decode.specs.declared.op.Width.{Width}
use Rattle.bpf_decode.specs.declared.op.Width.TheVariants.{W32, W64}
use Rattle.bpf_decode.specs.declared.op.Code.{Code}
use Rattle.bpf_decode.specs.declared.op.Code.TheVariants as codes
use Rattle.bpf_decode.specs.declared.op.Part.{Part}
use Rattle.bpf_decode.specs.declared.op.Part.TheVariants.{Low8, Low16, Low32}
use Rattle.bpf_decode.specs.declared.op.Bytes.{Bytes}
use Rattle.bpf_decode.specs.declared.op.Bytes.TheVariants.{Two, Four, Eight}
use Rattle.bpf_decode.specs.declared.form.OperandSource.TheVariants as source
use Rattle.bpf_decode.specs.declared.form.Form.{Form}
use Rattle.bpf_decode.specs.declared.form.Form.TheVariants.{Arith, Negate, End, Ja, Ja32, Jump}
use Rattle.bpf_decode.specs.declared.form.Form.TheVariants.{Call, Exit, Load, LoadSigned, Store}
use Rattle.bpf_decode.specs.declared.form.Form.TheVariants.{Wide}
use Rattle.bpf_decode.specs.Slots.{insn, fields, slot_bytes}
use Rattle.bpf_decode.specs.Encoding.{sign_of, slot_of, tail_of, HasRow, IsInstruction, encoding_of}
use Rattle.bpf_decode.specs.Forms.{form_of}
use Rattle.bpf_decode.proofs.RowLemmas.{form_opcode, form_is, form_by_opcode, form_by_opcode_of}
use Rattle.bpf_decode.proofs.SlotLemmas.{FitsInsn, fields-slot_bytes}

-- ---- from fields to the instruction

abbrev signed_code : Code → ℤ → Code
signed_code codes.Div off = cond (eqb (cast_unsigned w16 off) 0) codes.Div codes.SignedDiv
signed_code codes.Mod off = cond (eqb (cast_unsigned w16 off) 0) codes.Mod codes.SignedMod
signed_code code off = code

abbrev part_of : ℤ → Part
part_of off = cond (eqb (cast_unsigned w16 off) 8) Low8
    (cond (eqb (cast_unsigned w16 off) 16) Low16 Low32)

abbrev bytes_of : ℤ → Bytes
bytes_of imm = cond (eqb (cast_unsigned w32 imm) 16) Two
    (cond (eqb (cast_unsigned w32 imm) 32) Four Eight)

abbrev register_op : Width → Code → Insn → Op
register_op w codes.Mov i = cond (eqb (cast_unsigned w16 i.off) 0)
    (op.Arith w codes.Mov i.dst (From i.src)) (op.Extend w (part_of i.off) i.dst i.src)
register_op w code i = op.Arith w (signed_code code i.off) i.dst (From i.src)

abbrev op_at : Form → Insn → Op
op_at (Arith w code source.Immediate) i =
    op.Arith w (signed_code code i.off) i.dst (Immediate i.imm)
op_at (Arith w code source.Register) i = register_op w code i
op_at (Negate w) i = op.Negate w i.dst
op_at (End order) i = op.End order (bytes_of i.imm) i.dst
op_at Ja i = op.Ja i.off
op_at Ja32 i = op.Ja32 i.imm
op_at (Jump w condition source.Immediate) i = op.Jump w condition i.dst (Immediate i.imm) i.off
op_at (Jump w condition source.Register) i = op.Jump w condition i.dst (From i.src) i.off
op_at Call i = op.Call (cast_unsigned w32 i.imm)
op_at Exit i = op.Exit
op_at (Load size) i = op.Load size i.dst i.src i.off
op_at (LoadSigned part) i = op.LoadSigned part i.dst i.src i.off
op_at (Store size source.Immediate) i = op.Store size i.dst i.off (Immediate i.imm)
op_at (Store size source.Register) i = op.Store size i.dst i.off (From i.src)
op_at Wide i = op.Wide i.dst (cast_unsigned w32 i.imm)

abbrev pub read_slot : Insn → Op
read_slot i = op_at (form_by_opcode i.opc) i

-- an instruction as its first slot alone tells it
abbrev pub told : Op → Op
told (op.Wide dst value) = op.Wide dst (cast_unsigned w32 (cast_signed w32 (value % 2 ^ 32)))
told (op.Call helper) = op.Call (cast_unsigned w32 (cast_signed w32 helper))
told o = o

op_at_of : (o : Op) → HasRow o → op_at (form_of o) (slot_of o) ≡ told o
op_at_of (op.Arith w codes.Add dst (Immediate v)) row = refl
op_at_of (op.Arith w code dst (Immediate v)) row = refl
op_at_of (op.Arith w codes.Add dst (From src)) row = refl
op_at_of (op.Arith w code dst (From src)) row = refl
op_at_of (op.Extend W32 Low8 dst src) row = refl
op_at_of (op.Extend W32 Low16 dst src) row = refl
op_at_of (op.Extend W32 Low32 dst src) row = elim row [ ]
op_at_of (op.Extend W64 Low8 dst src) row = refl
op_at_of (op.Extend W64 part dst src) row = refl
op_at_of (op.End order Two dst) row = refl
op_at_of (op.End order bytes dst) row = refl
op_at_of (op.Jump w condition dst (Immediate v) offset) row = refl
op_at_of (op.Jump w condition dst (From src) offset) row = refl
op_at_of (op.Store size base offset (Immediate v)) row = refl
op_at_of (op.Store size base offset (From src)) row = refl
op_at_of op.Tail row = elim row [ ]
op_at_of o row = refl

pub read_slot_of : (o : Op) → HasRow o → read_slot (slot_of o) ≡ told o
read_slot_of o row =
    let same_form : form_by_opcode (slot_of o).opc ≡ form_of o =
    ap form_by_opcode (form_opcode o row) ∙ form_by_opcode_of (form_of o) (form_is o) in
    ap (λ (f : Form). op_at f (slot_of o)) same_form ∙ op_at_of o row

-- ---- the fields of a slot are in their bits

fits_zero16 : FitsSigned w16 (pos 0)
fits_zero16 = record { sfits = omega arith }

fits_zero32 : FitsSigned w32 (pos 0)
fits_zero32 = record { sfits = omega arith }

bits_fit : (n : ℕ) → n < 2 ^ 32 → FitsSigned w32 (cast_signed w32 n)
bits_fit n lt = sfits_to_z {w = w32} {n = n} (omega arith)

sign_fits : (code : Code) → FitsSigned w16 (sign_of code)
sign_fits codes.SignedDiv = record { sfits = omega arith }
sign_fits codes.SignedMod = record { sfits = omega arith }
sign_fits code = record { sfits = omega arith }

fields_fit : (dst src : ℕ) (opc : ℕ) (off imm : ℤ) → dst < 11 → src < 11 → FitsSigned w16 off
    → FitsSigned w32 imm → FitsInsn (insn opc dst src off imm)
fields_fit dst src opc off imm p q r s =
    record { dst = omega arith; src = omega arith; off = r; imm = s }

pub slot_fits : (o : Op) → IsInstruction o → FitsInsn (slot_of o)
slot_fits (op.Arith w code dst (Immediate v)) is =
    fields_fit _ _ _ _ _ is.1 (omega arith) (sign_fits code) is.2
slot_fits (op.Arith w code dst (From src)) is =
    fields_fit _ _ _ _ _ is.1.0 is.1.1 (sign_fits code) fits_zero32
slot_fits (op.Negate w dst) is = fields_fit _ _ _ _ _ is.1 (omega arith) fits_zero16 fits_zero32
slot_fits (op.Extend w Low8 dst src) is =
    fields_fit _ _ _ _ _ is.1.0 is.1.1 (record { sfits = omega arith }) fits_zero32
slot_fits (op.Extend w Low16 dst src) is =
    fields_fit _ _ _ _ _ is.1.0 is.1.1 (record { sfits = omega arith }) fits_zero32
slot_fits (op.Extend w Low32 dst src) is =
    fields_fit _ _ _ _ _ is.1.0 is.1.1 (record { sfits = omega arith }) fits_zero32
slot_fits (op.End order Two dst) is =
    fields_fit _ _ _ _ _ is.1 (omega arith) fits_zero16 (record { sfits = omega arith })
slot_fits (op.End order Four dst) is =
    fields_fit _ _ _ _ _ is.1 (omega arith) fits_zero16 (record { sfits = omega arith })
slot_fits (op.End order Eight dst) is =
    fields_fit _ _ _ _ _ is.1 (omega arith) fits_zero16 (record { sfits = omega arith })
slot_fits (op.Ja offset) is = fields_fit _ _ _ _ _ (omega arith) (omega arith) is.2 fits_zero32
slot_fits (op.Ja32 offset) is = fields_fit _ _ _ _ _ (omega arith) (omega arith) fits_zero16 is.2
slot_fits (op.Jump w condition dst (Immediate v) offset) is =
    fields_fit _ _ _ _ _ is.1 (omega arith) is.2.0 is.2.1
slot_fits (op.Jump w condition dst (From src) offset) is =
    fields_fit _ _ _ _ _ is.1.0 is.1.1 is.2 fits_zero32
slot_fits (op.Call helper) is =
    fields_fit _ _ _ _ _ (omega arith) (omega arith) fits_zero16 (bits_fit helper is.2)
slot_fits op.Exit is = fields_fit _ _ _ _ _ (omega arith) (omega arith) fits_zero16 fits_zero32
slot_fits (op.Load size dst base offset) is = fields_fit _ _ _ _ _ is.1.0 is.1.1 is.2 fits_zero32
slot_fits (op.LoadSigned part dst base offset) is =
    fields_fit _ _ _ _ _ is.1.0 is.1.1 is.2 fits_zero32
slot_fits (op.Store size base offset (Immediate v)) is =
    fields_fit _ _ _ _ _ is.1 (omega arith) is.2.0 is.2.1
slot_fits (op.Store size base offset (From src)) is =
    fields_fit _ _ _ _ _ is.1.0 is.1.1 is.2 fits_zero32
slot_fits (op.Wide dst value) is =
    fields_fit _ _ _ _ _ is.1 (omega arith) fits_zero16 (bits_fit (value % 2 ^ 32) (low_fits value))
  where
    low_fits : (value : ℕ) → value % 2 ^ 32 < 2 ^ 32
    low_fits value = omega arith
slot_fits op.Tail is = elim is.0 [ ]

-- ---- from bytes to the instruction

-- the fields of the first slot of an instruction
pub fields-encoding_of : (o : Op) (after : List ℕ) → IsInstruction o
    → fields (encoding_of o ++ after) ≡ slot_of o
fields-encoding_of (op.Wide dst value) after is =
    ap fields (append_assoc (slot_bytes (slot_of (op.Wide dst value))) (slot_bytes (tail_of value))
    after)
    ∙ fields-slot_bytes (slot_of (op.Wide dst value)) (slot_bytes (tail_of value) ++ after)
    (slot_fits (op.Wide dst value) is)
fields-encoding_of op.Tail after is = elim is.0 [ ]
fields-encoding_of o after is = fields-slot_bytes (slot_of o) after (slot_fits o is)

-- the fields of the second slot of a wide load
pub fields-tail : (dst value : ℕ) (after : List ℕ) → value < 2 ^ 64
    → fields (drop 8 (encoding_of (op.Wide dst value) ++ after)) ≡ tail_of value
fields-tail dst value after lt =
    fields-slot_bytes (tail_of value) after
    (record {
      dst = omega arith;
      src = omega arith;
      off = fits_zero16;
      imm = bits_fit (value / 2 ^ 32) high_fits;
    })
  where
    high_fits : value / 2 ^ 32 < 2 ^ 32
    high_fits = omega arith

abbrev completed : Op → Insn → Op
completed (op.Wide dst low) tail = op.Wide dst (cast_unsigned w32 tail.imm * 2 ^ 32 + low)
completed o tail = o

abbrev pub read_op : List ℕ → Op
read_op bytes = completed (read_slot (fields bytes)) (fields (drop 8 bytes))

pub read_op-encoding_of : (o : Op) (after : List ℕ) → IsInstruction o
    → read_op (encoding_of o ++ after) ≡ o
read_op-encoding_of (op.Wide dst value) after is =
    let bytes = encoding_of (op.Wide dst value) ++ after in
    let first : read_slot (fields bytes) ≡ told (op.Wide dst value) =
    ap read_slot (fields-encoding_of (op.Wide dst value) after is)
    ∙ read_slot_of (op.Wide dst value) tt in
    let second : fields (drop 8 bytes) ≡ tail_of value = fields-tail dst value after is.2 in
    let low : cast_unsigned w32 (cast_signed w32 (value % 2 ^ 32)) ≡ value % 2 ^ 32 =
    of_z-to_z w32 (value % 2 ^ 32) (omega arith) in
    let high : cast_unsigned w32 (cast_signed w32 (value / 2 ^ 32)) ≡ value / 2 ^ 32 =
    of_z-to_z w32 (value / 2 ^ 32) (omega (arith, is.2)) in
    let whole : (value / 2 ^ 32) * 2 ^ 32 + value % 2 ^ 32 ≡ value = omega arith in
    ap (λ (x : Op). completed x (fields (drop 8 bytes))) first
    ∙ ap (λ (t : Insn). completed (told (op.Wide dst value)) t) second
    ∙ ap (λ (x : ℕ). op.Wide dst (x * 2 ^ 32
    + cast_unsigned w32 (cast_signed w32 (value % 2 ^ 32)))) high
    ∙ ap (λ (x : ℕ). op.Wide dst ((value / 2 ^ 32) * 2 ^ 32 + x)) low
    ∙ ap (λ (x : ℕ). op.Wide dst x) whole
read_op-encoding_of (op.Call helper) after is =
    let bytes = encoding_of (op.Call helper) ++ after in
    let first : read_slot (fields bytes) ≡ told (op.Call helper) =
    ap read_slot (fields-encoding_of (op.Call helper) after is)
    ∙ read_slot_of (op.Call helper) tt in
    ap (λ (x : Op). completed x (fields (drop 8 bytes))) first
    ∙ ap (λ (x : ℕ). op.Call x) (of_z-to_z w32 helper is.2)
read_op-encoding_of op.Tail after is = elim is.0 [ ]
read_op-encoding_of o after is =
    ap (λ (x : Op). completed x (fields (drop 8 (encoding_of o ++ after))))
    (ap read_slot (fields-encoding_of o after is) ∙ read_slot_of o is.0)
