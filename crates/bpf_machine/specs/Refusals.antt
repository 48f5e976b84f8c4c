-- Refusals of an embeddable machine: their numbers, and when each comes (this project's profile).
use Rattle.std.specs.Prelude.{◌≡◌, ◌==◌, ℕ, List, Option, Some, None, if◌then◌else◌}
use Rattle.bpf_decode.specs.declared.op.Op.{Op}
use Rattle.bpf_decode.specs.Decoding as decoding
use Rattle.bpf_decode.specs.Encoding.{Encodes}
use Rattle.bpf_decode.specs.Faults as decode_faults
use Rattle.bpf_helpers.specs.Promise.{Promise}
use Rattle.bpf_regstate.specs.declared.length.Length.{Length}
use Rattle.bpf_regstate.specs.Lengths.{bytes_in}
use Rattle.bpf_regstate.specs.States.{Accepts}
use Rattle.bpf_verifier.specs.Verdict as verdict
use Rattle.bpf_machine.specs.declared.refusal.RegisterFault.{RegisterFault}
use Rattle.bpf_machine.specs.declared.refusal.RegisterFault.TheVariants.{NumberTaken, Full}
use Rattle.bpf_machine.specs.declared.refusal.RegisterFault.TheVariants.{ProgramIsSet}
use Rattle.bpf_machine.specs.declared.refusal.SetError.{SetError}
use Rattle.bpf_machine.specs.declared.refusal.SetError.TheVariants.{Decode, Verify, Memory}
use Rattle.bpf_machine.specs.declared.refusal.ExecuteError.{ExecuteError}
use Rattle.bpf_machine.specs.declared.refusal.ExecuteError.TheVariants as execute

abbrev pub register_code : RegisterFault → ℕ
register_code NumberTaken = 331
register_code Full = 332
register_code ProgramIsSet = 333

abbrev pub set_code : SetError → ℕ
set_code (Decode e) = decode_faults.error_code e
set_code (Verify e) = verdict.error_code e
set_code Memory = 501

abbrev pub set_slot : SetError → ℕ
set_slot (Decode e) = decode_faults.error_slot e
set_slot (Verify e) = verdict.error_slot e
set_slot Memory = 0

abbrev pub execute_code : ExecuteError → ℕ
execute_code execute.NoProgram = 334
execute_code execute.OtherLength = 335
execute_code execute.Memory = 501

-- the bytes encode this program, which is accepted with these helpers beside a record of this
-- length
pub record IsGood (bytes : List ℕ) (helpers : List (ℕ × Promise)) (record_length : Length)
    (ops : List Op) : Type 0 where
  pub encoded : Encodes bytes ops
  pub accepted : Accepts (bytes_in record_length) ops helpers

-- the error is the first fault of the bytes, or else of the program that they encode, or want of
-- memory
abbrev pub RefusesBytes : List ℕ → List (ℕ × Promise) → Length → SetError → Type 0
RefusesBytes bytes helpers record_length (Decode e) = decoding.Refuses bytes e
RefusesBytes bytes helpers record_length (Verify e) =
    (ops : List Op) × Encodes bytes ops × verdict.Refuses (bytes_in record_length) ops helpers e
RefusesBytes bytes helpers record_length Memory = Unit {0}

-- the error says that no program is set where none is, else that the record has another length than
-- that of the program where it has, and else want of memory
abbrev pub RefusesRun : Option Length → ℕ → ExecuteError → Type 0
RefusesRun None bytes e = e ≡ execute.NoProgram
RefusesRun (Some record_length) bytes e =
    e ≡ (if bytes == bytes_in record_length then execute.Memory else execute.OtherLength)

-- a program is set that runs beside a record of so many bytes
abbrev pub RunsBeside : Option Length → ℕ → Type 0
RunsBeside None bytes = ⊥
RunsBeside (Some record_length) bytes = bytes ≡ bytes_in record_length
