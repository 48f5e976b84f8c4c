-- What the reader of a slot answers.
use Rattle.std.specs.Prelude.{◌≡◌, ◌≢◌, ℕ, ◌*◌, ◌<◌, ℤ, pos, Option, Some, None, Result, Ok, Err}
use Rattle.bpf_decode.specs.declared.insn.Insn.{Insn}
use Rattle.bpf_decode.specs.declared.op.Op.{Op}
use Rattle.bpf_decode.specs.declared.op.Op.TheVariants.{Extend}
use Rattle.bpf_decode.specs.declared.op.Code.{Code}
use Rattle.bpf_decode.specs.declared.op.Part.{Part}
use Rattle.bpf_decode.specs.declared.op.Width.{Width}
use Rattle.bpf_decode.specs.declared.op.Bytes.{Bytes}
use Rattle.bpf_decode.specs.declared.fault.EncodingFault.{EncodingFault}
use Rattle.bpf_decode.specs.declared.fault.EncodingFault.TheVariants.{Register}
use Rattle.bpf_decode.specs.Words.{part_bits, count_of}
use Rattle.bpf_decode.specs.Encoding.{number_of, sign_of, slot_of, HasRow, IsInstruction, RowFault}
use Rattle.bpf_decode.specs.Faults.{code_of}

-- an instruction whose row writes these fields, or the fault of the slot
abbrev pub SlotGives : Result Op EncodingFault → Insn → Type 0
SlotGives (Ok op) i = IsInstruction op × (slot_of op ≡ i)
SlotGives (Err fault) i = RowFault i (code_of fault)

abbrev pub RegisterGives : Result ℕ EncodingFault → ℕ → Type 0
RegisterGives (Ok r) number = (r ≡ number) × (number < 11)
RegisterGives (Err fault) number = (fault ≡ Register) × (10 < number)

abbrev pub RegistersGive : Result (ℕ × ℕ) EncodingFault → ℕ → ℕ → Type 0
RegistersGive (Ok rs) dst src = (rs.0 ≡ dst) × (rs.1 ≡ src) × (dst < 11) × (src < 11)
RegistersGive (Err fault) dst src = (fault ≡ Register) × ((dst < 11) × (src < 11) → ⊥)

-- the operation of the same number with this offset
abbrev pub SignGives : Option Code → Code → ℤ → Type 0
SignGives (Some other) code off = (number_of other ≡ number_of code) × (sign_of other ≡ off)
SignGives None code off = (other : Code) → number_of other ≡ number_of code → sign_of other ≢ off

-- the part of so many bits that may be extended to this width
abbrev pub PartGives : Option Part → Width → ℤ → Type 0
PartGives (Some part) w off = HasRow (Extend w part 0 0) × (pos (part_bits part) ≡ off)
PartGives None w off = (part : Part) → HasRow (Extend w part 0 0) → pos (part_bits part) ≢ off

-- the bytes that have so many bits
abbrev pub BytesGive : Option Bytes → ℤ → Type 0
BytesGive (Some bytes) bits = pos (8 * count_of bytes) ≡ bits
BytesGive None bits = (bytes : Bytes) → pos (8 * count_of bytes) ≢ bits
