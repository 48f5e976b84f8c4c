-- What `verify` answers (this project's profile: the numbers of faults, and which of several is
-- told).
use Rattle.std.specs.Prelude.{◌≡◌, ℕ, List, Result, Ok, Err}
use Rattle.bpf_decode.specs.declared.op.Op.{Op}
use Rattle.bpf_helpers.specs.Promise.{Promise}
use Rattle.bpf_regstate.specs.declared.length.Length.{Length}
use Rattle.bpf_regstate.specs.States.{IsFirstFault}
use Rattle.bpf_verifier.specs.declared.fault.SlotFault.{SlotFault}
use Rattle.bpf_verifier.specs.declared.fault.SlotFault.TheVariants.{Jump, FallsOff, Uninitialised}
use Rattle.bpf_verifier.specs.declared.fault.SlotFault.TheVariants.{Address, StackByte, WritesRecord}
use Rattle.bpf_verifier.specs.declared.fault.SlotFault.TheVariants.{Helper, Argument, WritesEnd}
use Rattle.bpf_verifier.specs.declared.fault.VerifyError.{VerifyError}
use Rattle.bpf_verifier.specs.declared.fault.VerifyError.TheVariants.{Refused, Memory}

abbrev pub code_of : SlotFault → ℕ
code_of Jump = 306
code_of FallsOff = 307
code_of Uninitialised = 308
code_of Address = 309
code_of StackByte = 310
code_of WritesRecord = 311
code_of Helper = 312
code_of Argument = 313
code_of WritesEnd = 314

abbrev pub error_code : VerifyError → ℕ
error_code (Refused fault slot) = code_of fault
error_code Memory = 501

abbrev pub error_slot : VerifyError → ℕ
error_slot (Refused fault slot) = slot
error_slot Memory = 0

-- a program, signatures, and the length of the record beside which it runs
pub record Verified : Type 0 where
  pub record_length : Length
  pub ops : List Op
  pub sigs : List (ℕ × Promise)

-- the error is the first fault of the program, beside a record of this length, or want of memory
abbrev pub Refuses : ℕ → List Op → List (ℕ × Promise) → VerifyError → Type 0
Refuses record_length ops sigs (Refused fault slot) =
    IsFirstFault record_length ops sigs slot (code_of fault)
Refuses record_length ops sigs Memory = Unit {0}

-- the answer is this fault, or want of memory
abbrev pub AnswersFault : ℕ → ℕ → Result Verified VerifyError → Type 0
AnswersFault slot code (Ok checked) = ⊥
AnswersFault slot code (Err (Refused fault at)) = (at ≡ slot) × (code_of fault ≡ code)
AnswersFault slot code (Err Memory) = Unit {0}
