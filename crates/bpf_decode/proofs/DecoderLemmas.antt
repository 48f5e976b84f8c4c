-- An instruction stands at the front of the bytes that its fields were read from.
use Rattle.std.proofs.Common.{◌≡◌, ◌≢◌, ℕ, ◌+◌, ◌*◌, ◌/◌, ◌%◌, ◌^◌, ◌<◌, ◌≤◌, List, ◌++◌, length}
use Rattle.std.proofs.Common.{take, drop, refl, sym, ap, ◌∙◌, append_assoc, arith, length-drop}
use Rattle.std.specs.Prelude.{ℤ, pos}
use Rattle.std.specs.Int.{cast_signed, cast_unsigned, w32}
use Rattle.std.specs.Int.RustNames.{FitsSigned}
use Rattle.std.proofs.lemmas.Int.{to_z-of_z}
use Rattle.std.proofs.lemmas.List.{take-append-drop, get_or-drop}
use Rattle.bpf_decode.specs.declared.insn.Insn.{Insn}
use Rattle.bpf_decode.specs.declared.op.Op.{Op}
use Rattle.bpf_decode.specs.declared.op.Op.TheVariants.{Wide, Tail}
use Rattle.bpf_decode.specs.Slots.{insn, fields, slot_bytes}
use Rattle.bpf_decode.specs.Encoding.{slot_of, tail_of, HasRow, IsInstruction, IsTailSlot}
use Rattle.bpf_decode.specs.Encoding.{encoding_of}
use Rattle.bpf_decode.specs.Decoding.{Begins}
use Rattle.bpf_decode.proofs.RowLemmas.{bits32}
use Rattle.bpf_decode.proofs.SlotLemmas.{AreBytes, slot_bytes-fields}

pub AreBytes-drop : (n : ℕ) (bytes : List ℕ) → AreBytes bytes → AreBytes (drop n bytes)
AreBytes-drop n bytes each i = rw get_or-drop (each (n + i))

encoding_of-one_slot : (op : Op) → HasRow op → ((dst value : ℕ) → op ≢ Wide dst value)
    → encoding_of op ≡ slot_bytes (slot_of op)
encoding_of-one_slot (Wide dst value) row not_wide = absurd (not_wide dst value refl)
encoding_of-one_slot Tail row not_wide = elim row [ ]
encoding_of-one_slot op row not_wide = refl

pub op_begins : (op : Op) (bytes : List ℕ) → 8 ≤ length bytes → AreBytes bytes → IsInstruction op
    → slot_of op ≡ fields bytes
    → ((dst value : ℕ) → op ≢ Wide dst value) → Begins bytes op
op_begins op bytes long each is read not_wide =
    let front : encoding_of op ≡ take 8 bytes = encoding_of-one_slot op is.0 not_wide
    ∙ ap slot_bytes read ∙ slot_bytes-fields bytes long each in (
      is,
      (
        drop 8 bytes,
        sym (take-append-drop 8 bytes)
            ∙ ap (λ (x : List ℕ). x ++ drop 8 bytes) (sym front),
      ),
    )

-- the second slot, by its fields
pub IsTailSlot-is : (i : Insn) → IsTailSlot i → insn 0 0 0 (pos 0) i.imm ≡ i
IsTailSlot-is i t =
    ap (λ (x : ℕ). insn x 0 0 (pos 0) i.imm) (sym t.0)
    ∙ ap (λ (x : ℕ). insn i.opc x 0 (pos 0) i.imm) (sym t.1)
    ∙ ap (λ (x : ℕ). insn i.opc i.dst x (pos 0) i.imm) (sym t.2)
    ∙ ap (λ (x : ℤ). insn i.opc i.dst i.src x i.imm) (sym t.3)

pub wide_begins : (bytes : List ℕ) (dst : ℕ) (first second : Insn) → 16 ≤ length bytes
    → AreBytes bytes → dst < 11
    → FitsSigned w32 first.imm → FitsSigned w32 second.imm → first ≡ fields bytes
    → second ≡ fields (drop 8 bytes)
    → slot_of (Wide dst (cast_unsigned w32 first.imm)) ≡ first → IsTailSlot second
    → Begins bytes (Wide dst (cast_unsigned w32 second.imm * 2 ^ 32 + cast_unsigned w32 first.imm))
wide_begins bytes dst first second long each lt fits fits' f s wide t =
    let low = cast_unsigned w32 first.imm in
    let high = cast_unsigned w32 second.imm in
    let low_fits : low < 2 ^ 32 = bits32 first.imm fits in
    let high_fits : high < 2 ^ 32 = bits32 second.imm fits' in
    let low_half : (high * 2 ^ 32 + low) % 2 ^ 32 ≡ low % 2 ^ 32 = omega arith in
    let high_half : (high * 2 ^ 32 + low) / 2 ^ 32 ≡ high = omega arith in
    let value = high * 2 ^ 32 + low in
    let a : slot_bytes (slot_of (Wide dst value)) ≡ take 8 bytes =
    ap slot_bytes (ap (λ (x : ℕ). insn 0x18 dst 0 (pos 0) (cast_signed w32 x)) low_half ∙ wide ∙ f)
    ∙ slot_bytes-fields bytes (omega arith) each in
    let b : slot_bytes (tail_of value) ≡ take 8 (drop 8 bytes) =
    ap slot_bytes (ap (λ (x : ℕ). insn 0 0 0 (pos 0) (cast_signed w32 x)) high_half
    ∙ ap (λ (x : ℤ). insn 0 0 0 (pos 0) x) (to_z-of_z w32 second.imm fits') ∙ IsTailSlot-is second t
    ∙ s)
    ∙ slot_bytes-fields (drop 8 bytes) (omega (arith, length-drop 8 bytes))
    (AreBytes-drop 8 bytes each) in
    let after = drop 8 (drop 8 bytes) in
    let whole : bytes ≡ encoding_of (Wide dst value) ++ after =
    sym (take-append-drop 8 bytes)
    ∙ ap (λ (x : List ℕ). take 8 bytes ++ x) (sym (take-append-drop 8 (drop 8 bytes)))
    ∙ sym (append_assoc (take 8 bytes) (take 8 (drop 8 bytes)) after)
    ∙ ap (λ (x : List ℕ). (x ++ take 8 (drop 8 bytes)) ++ after) (sym a)
    ∙ ap (λ (x : List ℕ). (slot_bytes (slot_of (Wide dst value)) ++ x) ++ after) (sym b) in
    ((tt, lt, omega arith), (after, whole))
