-- Bytes and fields of a slot give each other back.
use Rattle.std.proofs.Common.{◌≡◌, ℕ, ◌+◌, ◌*◌, ◌/◌, ◌%◌, ◌^◌, ◌<◌, ◌≤◌, List, [], ◌∷◌, ◌++◌}
use Rattle.std.proofs.Common.{length, get_or, take, zero, suc, refl, ap, ◌∙◌, arith}
use Rattle.std.specs.Prelude.{ℤ}
use Rattle.std.specs.Int.{cast_signed, cast_unsigned, from_le_bytes, to_le_bytes, w16, w32}
use Rattle.std.specs.Int.RustNames.{FitsSigned}
use Rattle.std.proofs.lemmas.Int.{to_z-of_z, of_z-to_z}
use Rattle.std.proofs.lemmas.Nat.{le_bytes_2, le_bytes_4, from_le_bytes-to_le_bytes_2}
use Rattle.std.proofs.lemmas.Nat.{from_le_bytes-to_le_bytes_4}
use Rattle.bpf_decode.specs.declared.insn.Insn.{Insn}
use Rattle.bpf_decode.specs.Slots.{insn, fields, slot_bytes}
use Rattle.bpf_decode.proofs.RowLemmas.{bits16, bits32}

abbrev pub AreBytes : List ℕ → Type 0
AreBytes bytes = (i : ℕ) → get_or bytes i 0 < 256

offset_bytes : (c d : ℕ) → c < 256 → d < 256
    → to_le_bytes w16 (cast_unsigned w16 (cast_signed w16 (from_le_bytes w16 (c ∷ d ∷ [])))) ≡ c ∷ d
    ∷ []
offset_bytes c d p q =
    let n = from_le_bytes w16 (c ∷ d ∷ []) in
    let small : n < 2 ^ 16 = omega arith in
    rw (of_z-to_z w16 n small) (le_bytes_2 (c ∷ d ∷ []) n refl each refl)
  where
    each : AreBytes (c ∷ d ∷ [])
    each zero = p
    each (suc zero) = q
    each (suc (suc i)) = omega arith

immediate_bytes : (e f g h : ℕ) → e < 256 → f < 256 → g < 256 → h < 256
    → to_le_bytes w32 (cast_unsigned w32 (cast_signed w32 (from_le_bytes w32 (e ∷ f ∷ g ∷ h ∷ []))))
    ≡ e ∷ f ∷ g ∷ h ∷ []
immediate_bytes e f g h p q r s =
    let n = from_le_bytes w32 (e ∷ f ∷ g ∷ h ∷ []) in
    let small : n < 2 ^ 32 = omega arith in
    rw (of_z-to_z w32 n small) (le_bytes_4 (e ∷ f ∷ g ∷ h ∷ []) n refl each refl)
  where
    each : AreBytes (e ∷ f ∷ g ∷ h ∷ [])
    each zero = p
    each (suc zero) = q
    each (suc (suc zero)) = r
    each (suc (suc (suc zero))) = s
    each (suc (suc (suc (suc i)))) = omega arith

-- what is read from eight bytes is written as these bytes
pub slot_bytes-fields : (bytes : List ℕ) → 8 ≤ length bytes → AreBytes bytes
    → slot_bytes (fields bytes) ≡ take 8 bytes
slot_bytes-fields (a ∷ b ∷ c ∷ d ∷ e ∷ f ∷ g ∷ h ∷ after) long each =
    let registers : 16 * (b / 16) + b % 16 ≡ b = omega arith in
    let off = to_le_bytes w16 (cast_unsigned w16 (cast_signed w16 (from_le_bytes w16 (c ∷ d ∷ []))))
    in
    let imm =
    to_le_bytes w32 (cast_unsigned w32
    (cast_signed w32 (from_le_bytes w32 (e ∷ f ∷ g ∷ h ∷ [])))) in
    ap (λ (r : ℕ). a ∷ r ∷ (off ++ imm)) registers
    ∙ ap (λ (xs : List ℕ). a ∷ b ∷ (xs ++ imm)) (offset_bytes c d (each 2) (each 3))
    ∙ ap (λ (xs : List ℕ). a ∷ b ∷ c ∷ d ∷ xs)
    (immediate_bytes e f g h (each 4) (each 5) (each 6) (each 7))
slot_bytes-fields bytes long each = absurd (omega arith)

-- the fields of a slot, each in its bits
pub record FitsInsn (i : Insn) : Type 0 where
  pub dst : i.dst < 16
  pub src : i.src < 16
  pub off : FitsSigned w16 i.off
  pub imm : FitsSigned w32 i.imm

-- what is written is read again, whatever follows
pub fields-slot_bytes : (i : Insn) (after : List ℕ) → FitsInsn i
    → fields (slot_bytes i ++ after) ≡ i
fields-slot_bytes i after fits =
    let dst : (16 * i.src + i.dst) % 16 ≡ i.dst = omega (arith, fits.dst) in
    let src : (16 * i.src + i.dst) / 16 ≡ i.src = omega (arith, fits.dst) in
    let off : cast_signed w16 (from_le_bytes w16 (to_le_bytes w16 (cast_unsigned w16 i.off)))
    ≡ i.off =
    rw (from_le_bytes-to_le_bytes_2 (cast_unsigned w16 i.off) (bits16 i.off fits.off))
    (to_z-of_z w16 i.off fits.off) in
    let imm : cast_signed w32 (from_le_bytes w32 (to_le_bytes w32 (cast_unsigned w32 i.imm)))
    ≡ i.imm =
    rw (from_le_bytes-to_le_bytes_4 (cast_unsigned w32 i.imm) (bits32 i.imm fits.imm))
    (to_z-of_z w32 i.imm fits.imm) in
    ap (λ (x : ℕ). insn i.opc x ((16 * i.src + i.dst) / 16)
    (cast_signed w16 (from_le_bytes w16 (to_le_bytes w16 (cast_unsigned w16 i.off))))
    (cast_signed w32 (from_le_bytes w32 (to_le_bytes w32 (cast_unsigned w32 i.imm))))) dst
    ∙ ap (λ (x : ℕ). insn i.opc i.dst x
    (cast_signed w16 (from_le_bytes w16 (to_le_bytes w16 (cast_unsigned w16 i.off))))
    (cast_signed w32 (from_le_bytes w32 (to_le_bytes w32 (cast_unsigned w32 i.imm))))) src
    ∙ ap (λ (x : ℤ). insn i.opc i.dst i.src x
    (cast_signed w32 (from_le_bytes w32 (to_le_bytes w32 (cast_unsigned w32 i.imm))))) off
    ∙ ap (λ (x : ℤ). insn i.opc i.dst i.src i.off x) imm
