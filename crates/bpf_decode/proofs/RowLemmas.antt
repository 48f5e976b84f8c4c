-- A slot that no row fits: what each form allows of the fields beside the opcode.
use Rattle.std.proofs.Common.{◌≡◌, ◌≢◌, ℕ, ◌*◌, ◌/◌, ◌%◌, ◌^◌, ◌<◌, List, [], ◌∷◌, get_or, Bool}
use Rattle.std.proofs.Common.{true, false, cond, eqb, refl, sym, ap, subst, ◌∙◌, arith, ◌⊎◌, inl}
use Rattle.std.proofs.Common.{inr}
use Rattle.std.specs.Prelude.{ℤ, pos, negsuc}
use Rattle.std.specs.Int.{cast_signed, cast_unsigned, w16, w32}
use Rattle.std.specs.Int.RustNames.{FitsSigned}
use Rattle.std.proofs.lemmas.Int.{ints, to_z-of_z}
use Rattle.std.proofs.Math.Nat.{mod-eq_of_lt}
use Rattle.bpf_decode.specs.declared.insn.Insn.{Insn}
use Rattle.bpf_decode.specs.declared.op.Op.{Op}
use Rattle.bpf_decode.specs.declared.op.Op.TheVariants as op
use Rattle.bpf_decode.specs.declared.op.Operand.TheVariants.{From, Immediate}
use Rattle.bpf_decode.specs.declared.op.Width.{Width}
use Rattle.bpf_decode.specs.declared.op.Width.TheVariants.{W32, W64}
use Rattle.bpf_decode.specs.declared.op.Code.{Code}
use Rattle.bpf_decode.specs.declared.op.Code.TheVariants as codes
use Rattle.bpf_decode.specs.declared.op.Condition.{Condition}
use Rattle.bpf_decode.specs.declared.op.Condition.TheVariants as conditions
use Rattle.bpf_decode.specs.declared.op.Size.TheVariants.{Byte, Half, Word, Double}
use Rattle.bpf_decode.specs.declared.op.Part.{Part}
use Rattle.bpf_decode.specs.declared.op.Part.TheVariants.{Low8, Low16, Low32}
use Rattle.bpf_decode.specs.declared.op.Bytes.{Bytes}
use Rattle.bpf_decode.specs.declared.op.Bytes.TheVariants.{Two}
use Rattle.bpf_decode.specs.declared.op.ByteOrder.TheVariants.{Little, Big, Swap}
use Rattle.bpf_decode.specs.declared.form.OperandSource.{OperandSource}
use Rattle.bpf_decode.specs.declared.form.OperandSource.TheVariants as source
use Rattle.bpf_decode.specs.declared.form.Form.{Form}
use Rattle.bpf_decode.specs.declared.form.Form.TheVariants.{Arith, Negate, End, Ja, Ja32, Jump}
use Rattle.bpf_decode.specs.declared.form.Form.TheVariants.{Call, Exit, Load, LoadSigned, Store}
use Rattle.bpf_decode.specs.declared.form.Form.TheVariants.{Wide}
use Rattle.bpf_decode.specs.Words.{part_bits, count_of}
use Rattle.bpf_decode.specs.Slots.{insn}
use Rattle.bpf_decode.specs.Encoding.{number_of, sign_of, slot_of, HasRow, HasRegisters, RowFault}
use Rattle.bpf_decode.specs.Encoding.{opcode, field, register}
use Rattle.bpf_decode.specs.Forms.{opcode_of, IsForm, form_of, unsigned_code}

-- ---- an instruction of each form

abbrev sample : Form → Op
sample (Arith w code source.Immediate) = op.Arith w code 0 (Immediate (pos 0))
sample (Arith w code source.Register) = op.Arith w code 0 (From 0)
sample (Negate w) = op.Negate w 0
sample (End order) = op.End order Two 0
sample Ja = op.Ja (pos 0)
sample Ja32 = op.Ja32 (pos 0)
sample (Jump w condition source.Immediate) = op.Jump w condition 0 (Immediate (pos 0)) (pos 0)
sample (Jump w condition source.Register) = op.Jump w condition 0 (From 0) (pos 0)
sample Call = op.Call 0
sample Exit = op.Exit
sample (Load size) = op.Load size 0 0 (pos 0)
sample (LoadSigned part) = op.LoadSigned part 0 0 (pos 0)
sample (Store size source.Immediate) = op.Store size 0 (pos 0) (Immediate (pos 0))
sample (Store size source.Register) = op.Store size 0 (pos 0) (From 0)
sample Wide = op.Wide 0 0

sample_row : (f : Form) → HasRow (sample f)
sample_row (Arith w code source.Immediate) = tt
sample_row (Arith w code source.Register) = tt
sample_row (Jump w condition source.Immediate) = tt
sample_row (Jump w condition source.Register) = tt
sample_row (Store size source.Immediate) = tt
sample_row (Store size source.Register) = tt
sample_row f = tt

sample_opcode : (f : Form) → (slot_of (sample f)).opc ≡ opcode_of f
sample_opcode (Arith w code source.Immediate) = omega arith
sample_opcode (Arith w code source.Register) = omega arith
sample_opcode (Jump w condition source.Immediate) = omega arith
sample_opcode (Jump w condition source.Register) = omega arith
sample_opcode (Store size source.Immediate) = omega arith
sample_opcode (Store size source.Register) = omega arith
sample_opcode f = refl

-- ---- the form of an instruction

number_of-unsigned_code : (code : Code) → number_of (unsigned_code code) ≡ number_of code
number_of-unsigned_code codes.Add = refl
number_of-unsigned_code code = refl

sign_of-unsigned_code : (code : Code) → sign_of (unsigned_code code) ≡ pos 0
sign_of-unsigned_code codes.Add = refl
sign_of-unsigned_code code = refl

pub form_opcode : (o : Op) → HasRow o → (slot_of o).opc ≡ opcode_of (form_of o)
form_opcode (op.Arith w code dst (Immediate v)) row = omega (arith, number_of-unsigned_code code)
form_opcode (op.Arith w code dst (From src)) row = omega (arith, number_of-unsigned_code code)
form_opcode (op.Extend w part dst src) row = omega arith
form_opcode (op.Jump w condition dst (Immediate v) offset) row = omega arith
form_opcode (op.Jump w condition dst (From src) offset) row = omega arith
form_opcode (op.Store size base offset (Immediate v)) row = omega arith
form_opcode (op.Store size base offset (From src)) row = omega arith
form_opcode op.Tail row = elim row [ ]
form_opcode o row = refl

pub form_is : (o : Op) → IsForm (form_of o)
form_is (op.Arith w code dst (Immediate v)) = sign_of-unsigned_code code
form_is (op.Arith w code dst (From src)) = sign_of-unsigned_code code
form_is (op.Jump w condition dst (Immediate v) offset) = tt
form_is (op.Jump w condition dst (From src) offset) = tt
form_is (op.Store size base offset (Immediate v)) = tt
form_is (op.Store size base offset (From src)) = tt
form_is (op.Extend w part dst src) = refl
form_is o = tt

-- ---- one form for each opcode

abbrev code_of_number : ℕ → Code
code_of_number n =
    get_or (codes.Add ∷ codes.Sub ∷ codes.Mul ∷ codes.Div ∷ codes.Or ∷ codes.And ∷ codes.LeftShift
    ∷ codes.RightShift
    ∷ codes.Add ∷ codes.Mod ∷ codes.Xor ∷ codes.Mov ∷ codes.ArithmeticShift ∷ []) n codes.Add

abbrev condition_of_number : ℕ → Condition
condition_of_number n =
    get_or (conditions.Equal ∷ conditions.Equal ∷ conditions.Above ∷ conditions.AtLeast
    ∷ conditions.Meets ∷ conditions.NotEqual
    ∷ conditions.SignedAbove ∷ conditions.SignedAtLeast ∷ conditions.Equal ∷ conditions.Equal
    ∷ conditions.Below
    ∷ conditions.AtMost ∷ conditions.SignedBelow ∷ conditions.SignedAtMost ∷ []) n conditions.Equal

abbrev source_of_number : ℕ → OperandSource
source_of_number n = cond (eqb n 0) source.Immediate source.Register

-- the opcodes that stand alone
abbrev alone : List (ℕ × Form)
alone =
    (0x84, Negate W32) ∷ (0x87, Negate W64) ∷ (0xd4, End Little) ∷ (0xdc, End Big)
    ∷ (0xd7, End Swap) ∷ (0x05, Ja) ∷ (0x06, Ja32)
    ∷ (0x85, Call) ∷ (0x95, Exit) ∷ (0x61, Load Word) ∷ (0x69, Load Half) ∷ (0x71, Load Byte)
    ∷ (0x79, Load Double)
    ∷ (0x81, LoadSigned Low32) ∷ (0x89, LoadSigned Low16) ∷ (0x91, LoadSigned Low8)
    ∷ (0x62, Store Word source.Immediate) ∷ (0x6a, Store Half source.Immediate)
    ∷ (0x72, Store Byte source.Immediate)
    ∷ (0x7a, Store Double source.Immediate) ∷ (0x63, Store Word source.Register)
    ∷ (0x6b, Store Half source.Register)
    ∷ (0x73, Store Byte source.Register) ∷ (0x7b, Store Double source.Register) ∷ (0x18, Wide) ∷ []

abbrev found : List (ℕ × Form) → ℕ → Form → Form
found [] n other = other
found (e ∷ es) n other = cond (eqb n e.0) e.1 (found es n other)

-- the form of a class
abbrev in_class : ℕ → ℕ → OperandSource → Form
in_class n class s =
    cond (eqb class 4) (Arith W32 (code_of_number n) s)
    (cond (eqb class 7) (Arith W64 (code_of_number n) s)
    (cond (eqb class 6) (Jump W32 (condition_of_number n) s)
    (Jump W64 (condition_of_number n) s)))

abbrev pub form_by_opcode : ℕ → Form
form_by_opcode n = found alone n (in_class (n / 16) (n % 8) (source_of_number (n / 8 % 2)))

pub form_by_opcode_of : (f : Form) → IsForm f → form_by_opcode (opcode_of f) ≡ f
form_by_opcode_of (Arith W32 codes.SignedDiv s) h = absurd cc
form_by_opcode_of (Arith W32 codes.SignedMod s) h = absurd cc
form_by_opcode_of (Arith W32 code source.Immediate) h = refl
form_by_opcode_of (Arith W32 code source.Register) h = refl
form_by_opcode_of (Arith W64 codes.SignedDiv s) h = absurd cc
form_by_opcode_of (Arith W64 codes.SignedMod s) h = absurd cc
form_by_opcode_of (Arith W64 code source.Immediate) h = refl
form_by_opcode_of (Arith W64 code source.Register) h = refl
form_by_opcode_of (Jump W32 conditions.Equal source.Immediate) h = refl
form_by_opcode_of (Jump W32 condition source.Immediate) h = refl
form_by_opcode_of (Jump W32 conditions.Equal source.Register) h = refl
form_by_opcode_of (Jump W32 condition source.Register) h = refl
form_by_opcode_of (Jump W64 conditions.Equal source.Immediate) h = refl
form_by_opcode_of (Jump W64 condition source.Immediate) h = refl
form_by_opcode_of (Jump W64 conditions.Equal source.Register) h = refl
form_by_opcode_of (Jump W64 condition source.Register) h = refl
form_by_opcode_of (Negate W32) h = refl
form_by_opcode_of (Negate W64) h = refl
form_by_opcode_of (End Little) h = refl
form_by_opcode_of (End order) h = refl
form_by_opcode_of (Load Word) h = refl
form_by_opcode_of (Load size) h = refl
form_by_opcode_of (LoadSigned Low32) h = refl
form_by_opcode_of (LoadSigned part) h = refl
form_by_opcode_of (Store Word source.Immediate) h = refl
form_by_opcode_of (Store size source.Immediate) h = refl
form_by_opcode_of (Store Word source.Register) h = refl
form_by_opcode_of (Store size source.Register) h = refl
form_by_opcode_of f h = refl

pub one_form : (f g : Form) → IsForm f → IsForm g → opcode_of f ≡ opcode_of g → f ≡ g
one_form f g p q e = sym (form_by_opcode_of f p) ∙ ap form_by_opcode e ∙ form_by_opcode_of g q

-- ---- what each form allows

abbrev pub Allowed : Form → Insn → Type 0
Allowed (Arith w code source.Immediate) i =
    (i.src ≡ 0) × ((other : Code) × (number_of other ≡ number_of code) × (sign_of other ≡ i.off))
Allowed (Arith w code source.Register) i =
    (i.imm ≡ pos 0) × (((other : Code) × (number_of other ≡ number_of code)
    × (sign_of other ≡ i.off))
    ⊎ ((part : Part) × (code ≡ codes.Mov) × HasRow (op.Extend w part 0 0)
    × (pos (part_bits part) ≡ i.off)))
Allowed (Negate w) i = (i.src ≡ 0) × (i.off ≡ pos 0) × (i.imm ≡ pos 0)
Allowed (End order) i = (i.src ≡ 0) × (i.off ≡ pos 0)
    × ((bytes : Bytes) × (pos (8 * count_of bytes) ≡ i.imm))
Allowed Ja i = (i.dst ≡ 0) × (i.src ≡ 0) × (i.imm ≡ pos 0)
Allowed Ja32 i = (i.dst ≡ 0) × (i.src ≡ 0) × (i.off ≡ pos 0)
Allowed (Jump w condition source.Immediate) i = i.src ≡ 0
Allowed (Jump w condition source.Register) i = i.imm ≡ pos 0
Allowed Call i = (i.dst ≡ 0) × (i.src ≡ 0) × (i.off ≡ pos 0)
Allowed Exit i = (i.dst ≡ 0) × (i.src ≡ 0) × (i.off ≡ pos 0) × (i.imm ≡ pos 0)
Allowed (Load size) i = i.imm ≡ pos 0
Allowed (LoadSigned part) i = i.imm ≡ pos 0
Allowed (Store size source.Immediate) i = i.src ≡ 0
Allowed (Store size source.Register) i = i.imm ≡ pos 0
Allowed Wide i = (i.src ≡ 0) × (i.off ≡ pos 0)

extends : (w : Width) (part : Part) (dst src : ℕ) → HasRow (op.Extend w part dst src)
    → HasRow (op.Extend w part 0 0)
extends W32 Low32 dst src row = row
extends W32 part dst src row = tt
extends W64 Low32 dst src row = tt
extends W64 part dst src row = tt

allowed : (o : Op) → HasRow o → Allowed (form_of o) (slot_of o)
allowed (op.Arith w code dst (Immediate v)) row =
    (refl, (code, sym (number_of-unsigned_code code), refl))
allowed (op.Arith w code dst (From src)) row =
    (refl, inl (code, sym (number_of-unsigned_code code), refl))
allowed (op.Negate w dst) row = (refl, refl, refl)
allowed (op.Extend w part dst src) row = (refl, inr (part, refl, extends w part dst src row, refl))
allowed (op.End order bytes dst) row = (refl, refl, (bytes, refl))
allowed (op.Ja offset) row = (refl, refl, refl)
allowed (op.Ja32 offset) row = (refl, refl, refl)
allowed (op.Jump w condition dst (Immediate v) offset) row = refl
allowed (op.Jump w condition dst (From src) offset) row = refl
allowed (op.Call helper) row = (refl, refl, refl)
allowed op.Exit row = (refl, refl, refl, refl)
allowed (op.Load size dst base offset) row = refl
allowed (op.LoadSigned part dst base offset) row = refl
allowed (op.Store size base offset (Immediate v)) row = refl
allowed (op.Store size base offset (From src)) row = refl
allowed (op.Wide dst value) row = (refl, refl)
allowed op.Tail row = elim row [ ]

-- a form has the opcode and its other fields are none that it allows
pub field_fault : (f : Form) (i : Insn) → IsForm f × (opcode_of f ≡ i.opc) → (Allowed f i → ⊥)
    → RowFault i 304
field_fault f i heads wrong = field (sample f) (sample_row f) (sample_opcode f ∙ heads.1) others
  where
    others : (other : Op) → HasRow other → slot_of other ≢ i
    others o row e =
        let same_opcode : opcode_of (form_of o) ≡ opcode_of f = sym (form_opcode o row)
        ∙ ap (λ (j : Insn). j.opc) e ∙ sym heads.1 in
        let same_form : form_of o ≡ f = one_form (form_of o) f (form_is o) heads.0 same_opcode in
        wrong (subst (λ (j : Insn). Allowed f j) e
        (subst (λ (g : Form). Allowed g (slot_of o)) same_form (allowed o row)))

-- no form has the opcode
pub opcode_fault : (i : Insn) → ((f : Form) → IsForm f → opcode_of f ≢ i.opc) → RowFault i 303
opcode_fault i none =
    opcode (λ (o : Op) (row : HasRow o) (e : (slot_of o).opc ≡ i.opc). none (form_of o) (form_is o)
    (sym (form_opcode o row) ∙ e))

-- a row fits but for a register
pub register_fault : (o : Op) (f : Form) (i : Insn) → HasRow o → (slot_of o).opc ≡ opcode_of f
    → IsForm f × (opcode_of f ≡ i.opc)
    → (slot_of o).dst ≡ i.dst → (slot_of o).src ≡ i.src → (slot_of o).off ≡ i.off
    → (slot_of o).imm ≡ i.imm → (HasRegisters o → ⊥) → RowFault i 305
register_fault o f i row opc heads dst src off imm bad =
    let fits : slot_of o ≡ i =
    ap (λ (x : ℕ). insn x (slot_of o).dst (slot_of o).src (slot_of o).off (slot_of o).imm) (opc
    ∙ heads.1)
    ∙ ap (λ (x : ℕ). insn i.opc x (slot_of o).src (slot_of o).off (slot_of o).imm) dst
    ∙ ap (λ (x : ℕ). insn i.opc i.dst x (slot_of o).off (slot_of o).imm) src
    ∙ ap (λ (x : ℤ). insn i.opc i.dst i.src x (slot_of o).imm) off
    ∙ ap (λ (x : ℤ). insn i.opc i.dst i.src i.off x) imm in
    register o row fits bad

-- a signed field is 0 where its bits are
pub zero16 : (z : ℤ) → FitsSigned w16 z → cast_unsigned w16 z ≡ 0 → pos 0 ≡ z
zero16 z fits e = omega (arith, ints)

pub zero32 : (z : ℤ) → FitsSigned w32 z → cast_unsigned w32 z ≡ 0 → pos 0 ≡ z
zero32 z fits e = omega (arith, ints)

-- a part that may be extended has a row at any registers
pub extends_at : (w : Width) (part : Part) (dst src : ℕ) → HasRow (op.Extend w part 0 0)
    → HasRow (op.Extend w part dst src)
extends_at W32 Low32 dst src row = row
extends_at W32 part dst src row = tt
extends_at W64 Low32 dst src row = tt
extends_at W64 part dst src row = tt

mov_sign : (code : Code) → number_of code ≡ 11 → sign_of code ≡ pos 0
mov_sign codes.SignedDiv e = absurd (omega arith)
mov_sign codes.SignedMod e = absurd (omega arith)
mov_sign code e = refl

-- what MOV allows at an offset that is not 0
pub extension_allowed : (w : Width) (i : Insn) → Allowed (Arith w codes.Mov source.Register) i
    → i.off ≢ pos 0
    → ((part : Part) → HasRow (op.Extend w part 0 0) → pos (part_bits part) ≢ i.off) → ⊥
extension_allowed w i a ne none =
    elim a.1 [
      | inl s ↦ ne (sym s.2 ∙ mov_sign s.0 s.1)
      | inr e ↦ none e.0 e.2 e.3
    ]

pub part_not_none : (part : Part) (z : ℤ) → pos (part_bits part) ≡ z → cast_unsigned w16 z ≡ 0 → ⊥
part_not_none Low8 z e f = absurd (omega (arith, ap (cast_unsigned w16) e))
part_not_none Low16 z e f = absurd (omega (arith, ap (cast_unsigned w16) e))
part_not_none Low32 z e f = absurd (omega (arith, ap (cast_unsigned w16) e))

pub not_true : (b : Bool) → b ≡ false → b ≡ true → ⊥
not_true b e f = absurd cc

-- the bits of a signed field
pub bits16 : (z : ℤ) → FitsSigned w16 z → cast_unsigned w16 z < 2 ^ 16
bits16 (pos n) fits = omega (arith, fits.sfits)
bits16 (negsuc n) fits = omega arith

pub bits32 : (z : ℤ) → FitsSigned w32 z → cast_unsigned w32 z < 2 ^ 32
bits32 (pos n) fits = omega (arith, fits.sfits)
bits32 (negsuc n) fits = omega arith

-- the low half of a sign-extended immediate is the immediate
pub low_half : (z : ℤ) → FitsSigned w32 z → cast_signed w32 (cast_unsigned w32 z % 2 ^ 32) ≡ z
low_half z fits = rw (mod-eq_of_lt (bits32 z fits)) (to_z-of_z w32 z fits)
