-- What the bytes of a program mean under the signatures of helpers, beside a record of some length
-- (RFC 9669; the numbers of faults are this project's profile).
use Rattle.std.specs.Prelude.{◌≡◌, ℕ, ◌*◌, ◌≤◌, List, length, Result, Ok, Err, ◌⊎◌}
use Rattle.bpf_decode.specs.declared.op.Op.{Op}
use Rattle.bpf_decode.specs.declared.program.TheConstants.{MOST_SLOTS}
use Rattle.bpf_decode.specs.Encoding.{AreSlots, Encodes, FirstFault}
use Rattle.bpf_helpers.specs.Promise.{Promise}
use Rattle.bpf_regstate.specs.declared.length.Length.{Length}
use Rattle.bpf_regstate.specs.Lengths.{bytes_in}
use Rattle.bpf_regstate.specs.States.{Accepts, IsFirstFault}
use Rattle.bpf_verifier.specs.Verdict.{Verified}
use Rattle.bpf_verifier.specs.declared.reading.ProgramError.{ProgramError}
use Rattle.bpf_verifier.specs.declared.reading.ProgramError.TheVariants.{Memory, Refused}

-- a checked program, or the number of a fault and its slot
abbrev pub Reading : Type 0
Reading = Result Verified (ℕ × ℕ)

-- Some slots of eight bytes, and not too many. Bytes of another number are refused as that, and for
-- them nobody asks for memory.
pub record HasSlots (bytes : List ℕ) : Type 0 where
  pub few : length bytes ≤ 8 * MOST_SLOTS
  pub slots : AreSlots bytes

-- the bytes encode the program, and no slot of it has a fault beside a record of this length
pub record IsProgramOf (sigs : List (ℕ × Promise)) (record_length : Length) (bytes : List ℕ)
    (v : Verified) : Type 0 where
  pub encoded : Encodes bytes v.ops
  pub accepted : Accepts (bytes_in record_length) v.ops sigs
  pub checked : v.sigs ≡ sigs
  pub long : v.record_length ≡ record_length

-- the bytes encode a program whose first fault is this one
pub record HasFault (sigs : List (ℕ × Promise)) (record_length : Length) (bytes : List ℕ)
    (code slot : ℕ) : Type 0 where
  pub ops : List Op
  pub encoded : Encodes bytes ops
  pub fault : IsFirstFault (bytes_in record_length) ops sigs slot code

-- the bytes are read so: as a program that is accepted, or with the first fault of the bytes or of
-- the program that they encode
abbrev pub IsReading : List (ℕ × Promise) → Length → List ℕ → Reading → Type 0
IsReading sigs record_length bytes (Ok v) = IsProgramOf sigs record_length bytes v
IsReading sigs record_length bytes (Err f) =
    FirstFault bytes f.0 f.1 ⊎ HasFault sigs record_length bytes f.0 f.1

-- What a function returned is how the bytes are read, unless memory ran out.
abbrev pub GivesReading : List (ℕ × Promise) → Length → List ℕ → Result Verified ProgramError
    → Type 0
GivesReading sigs record_length bytes (Ok v) = IsReading sigs record_length bytes (Ok v)
GivesReading sigs record_length bytes (Err (Refused code slot)) =
    IsReading sigs record_length bytes (Err (code, slot))
GivesReading sigs record_length bytes (Err Memory) = Unit {0}

-- It is this reading, unless memory ran out.
abbrev pub AnswersReading : Reading → Result Verified ProgramError → Type 0
AnswersReading reading (Ok v) = reading ≡ Ok v
AnswersReading reading (Err (Refused code slot)) = reading ≡ Err (code, slot)
AnswersReading reading (Err Memory) = Unit {0}
