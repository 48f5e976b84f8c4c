-- What is told of the bytes of a program.
use Rattle.std.specs.Prelude.{ℕ, ◌≡◌, ◌+◌, true, false, List, [], ◌∷◌, ◌++◌, codes, length, Result, Ok}
use Rattle.std.specs.Prelude.{Err}
use Rattle.std.specs.Fmt.{decimal}
use Rattle.bpf_decode.specs.Listing.{line_text}
use Rattle.bpf_decode.specs.declared.op.Op.{Op}
use Rattle.bpf_helpers.specs.Promise.{Promise}
use Rattle.acdm_lines.specs.Counted.{SinkView, SourceView, faults_after}
use Rattle.acdm_lines.specs.declared.run_error.RunError.TheVariants as errors
use Rattle.bpf_regstate.specs.declared.length.Length.{Length}
use Rattle.bpf_verifier.specs.Reading.{IsReading}
use Rattle.acdm_wire.specs.Writes.{Wrote, WroteInPart}
use Rattle.acdm_judging.specs.Gave.{GaveBytes, most_bytes}
use Rattle.acdm_judging.specs.declared.verifying.ProgramVerdict.{ProgramVerdict}
use Rattle.acdm_judging.specs.declared.verifying.ProgramVerdict.TheVariants.{Accepted, Refused}
use Rattle.acdm_failures.specs.declared.failure.Failure.{Failure}
use Rattle.acdm_failures.specs.declared.failure.Failure.TheVariants.{Read, Write, Memory}

-- the verdict is the one right reading of the bytes, beside records of this length
abbrev pub IsVerdict : List (ℕ × Promise) → Length → List ℕ → ProgramVerdict → Type 0
IsVerdict sigs long bytes (Accepted v) = IsReading sigs long bytes (Ok v)
IsVerdict sigs long bytes (Refused code slot) = IsReading sigs long bytes (Err (code, slot))

-- the status of the command
abbrev pub status_of : ProgramVerdict → ℕ
status_of (Accepted v) = 0
status_of (Refused code slot) = 1

-- the lines of the slots of a program from this number on
abbrev pub slots_text : ℕ → List Op → List ℕ
slots_text slot [] = []
slots_text slot (op ∷ more) = line_text slot op ++ 10 ∷ slots_text (slot + 1) more

-- how it is told: a line for each slot and `accepted SLOTS`, or `refused CODE SLOT`
abbrev pub verdict_text : ProgramVerdict → List ℕ
verdict_text (Accepted v) =
    slots_text 0 v.ops ++ codes "accepted " ++ decimal (length v.ops) ++ 10 ∷ []
verdict_text (Refused code slot) =
    codes "refused " ++ decimal code ++ 32 ∷ [] ++ decimal slot ++ 10 ∷ []

-- the verdict on the bytes that a reader gave
pub record Judged {R : Type 0} (sigs : List (ℕ × Promise)) (long : Length)
    (read read_after : SourceView R) (verdict : ProgramVerdict) : Type 0 where
  pub bytes : List ℕ
  pub gave : GaveBytes most_bytes read read_after bytes
  pub is : IsVerdict sigs long bytes verdict

-- what comes of judging them; an error of the reader is one fault more
abbrev pub Judges : {R : Type 0} → List (ℕ × Promise) → Length → SourceView R → SourceView R
    → Result ProgramVerdict Failure → Type 0
Judges sigs long read read_after (Ok verdict) = Judged sigs long read read_after verdict
Judges sigs long read read_after (Err Read) = read_after.faults ≡ faults_after true read.faults
Judges sigs long read read_after (Err Memory) = Unit {0}
Judges sigs long read read_after (Err failure) = ⊥

-- the verdict was written, and no byte of it waits for a flush
pub record TellsVerdict {R W : Type 0} (sigs : List (ℕ × Promise)) (long : Length)
    (read read_after : SourceView R) (written written_after : SinkView W) (status : ℕ)
    : Type 0 where
  pub verdict : ProgramVerdict
  pub judged : Judged sigs long read read_after verdict
  pub told : Wrote written written_after (verdict_text verdict)
  pub flushed : written_after.waits ≡ false
  pub status_is : status ≡ status_of verdict

-- the writer failed once more after a first part of its text
pub record FailsToTellVerdict {R W : Type 0} (sigs : List (ℕ × Promise)) (long : Length)
    (read read_after : SourceView R) (written written_after : SinkView W) : Type 0 where
  pub verdict : ProgramVerdict
  pub judged : Judged sigs long read read_after verdict
  pub told : WroteInPart written written_after (verdict_text verdict) errors.Write

-- what comes of verifying what a reader gives; nothing is written where there is no verdict
abbrev pub Verifies : {R W : Type 0} → List (ℕ × Promise) → Length → SourceView R → SourceView R
    → SinkView W → SinkView W → Result ℕ Failure → Type 0
Verifies sigs long read read_after written written_after (Ok status) =
    TellsVerdict sigs long read read_after written written_after status
Verifies sigs long read read_after written written_after (Err Write) =
    FailsToTellVerdict sigs long read read_after written written_after
Verifies sigs long read read_after written written_after (Err Read) =
    Judges sigs long read read_after (Err Read) × (written_after ≡ written)
Verifies sigs long read read_after written written_after (Err Memory) = written_after ≡ written
Verifies sigs long read read_after written written_after (Err failure) = ⊥
