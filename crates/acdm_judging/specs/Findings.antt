-- What is told of a journal.
use Rattle.std.specs.Prelude.{ℕ, ◌≡◌, false, List, [], ◌∷◌, ◌++◌, codes, Result, Ok, Err}
use Rattle.std.specs.Fmt.{decimal}
use Rattle.bpf_helpers.specs.Promise.{Promise}
use Rattle.acdm_lines.specs.Counted.{SinkView, SourceView}
use Rattle.acdm_lines.specs.declared.run_error.RunError.TheVariants as errors
use Rattle.acdm_journal.specs.Audit.{clause_code}
use Rattle.acdm_journal.specs.Whole.{GaveLegal, FoundFaulty, FoundUnended}
use Rattle.acdm_wire.specs.Writes.{Wrote, WroteInPart}
use Rattle.acdm_judging.specs.declared.auditing.Finding.{Finding}
use Rattle.acdm_judging.specs.declared.auditing.Finding.TheVariants.{Legal, Faulty}
use Rattle.acdm_failures.specs.declared.failure.Failure.{Failure}
use Rattle.acdm_failures.specs.declared.failure.Failure.TheVariants.{Read, Write, Memory}

-- what is found in what a reader gives
abbrev pub Finds : {R : Type 0} → List (ℕ × Promise) → SourceView R → SourceView R
    → Result Finding Failure → Type 0
Finds sigs old new (Ok (Legal n)) = GaveLegal sigs old.log new.log new.ended n
Finds sigs old new (Ok (Faulty entry clause)) =
    FoundFaulty sigs old.log new.log new.ended entry clause
Finds sigs old new (Err Read) = FoundUnended sigs old.log new.log old.faults new.faults
Finds sigs old new (Err Memory) = Unit {0}
Finds sigs old new (Err failure) = ⊥

-- the status of the command
abbrev pub status_of : Finding → ℕ
status_of (Legal n) = 0
status_of (Faulty entry clause) = 1

-- how it is told: `legal N` of N entries, or `entry N CODE`, of the first faulty entry, from 0, and the
-- first clause that it breaks
abbrev pub finding_text : Finding → List ℕ
finding_text (Legal n) = codes "legal " ++ decimal n ++ 10 ∷ []
finding_text (Faulty entry clause) =
    codes "entry " ++ decimal entry ++ 32 ∷ [] ++ decimal (clause_code clause) ++ 10 ∷ []

-- what comes of telling a finding: its line was written, of which no byte waits for a flush, and this is
-- the status; or the writer failed once more after a first part of it
abbrev pub Tells : {W : Type 0} → Finding → SinkView W → SinkView W → Result ℕ Failure → Type 0
Tells finding written written_after (Ok status) =
    Wrote written written_after (finding_text finding) × (written_after.waits ≡ false)
    × (status ≡ status_of finding)
Tells finding written written_after (Err failure) =
    WroteInPart written written_after (finding_text finding) errors.Write × (failure ≡ Write)

-- what was found in what a reader gave was written, and no byte of it waits for a flush
pub record TellsFinding {R W : Type 0} (sigs : List (ℕ × Promise)) (read read_after : SourceView R)
    (written written_after : SinkView W) (status : ℕ) : Type 0 where
  pub finding : Finding
  pub finds : Finds sigs read read_after (Ok finding)
  pub told : Wrote written written_after (finding_text finding)
  pub flushed : written_after.waits ≡ false
  pub status_is : status ≡ status_of finding

-- something was found, and the writer failed once more after a first part of its text
pub record FailsToTellFinding {R W : Type 0} (sigs : List (ℕ × Promise))
    (read read_after : SourceView R) (written written_after : SinkView W) : Type 0 where
  pub finding : Finding
  pub finds : Finds sigs read read_after (Ok finding)
  pub told : WroteInPart written written_after (finding_text finding) errors.Write

-- what comes of an audit; nothing is written where nothing was found
abbrev pub Audited : {R W : Type 0} → List (ℕ × Promise) → SourceView R → SourceView R → SinkView W
    → SinkView W → Result ℕ Failure → Type 0
Audited sigs read read_after written written_after (Ok status) =
    TellsFinding sigs read read_after written written_after status
Audited sigs read read_after written written_after (Err Write) =
    FailsToTellFinding sigs read read_after written written_after
Audited sigs read read_after written written_after (Err Read) =
    Finds sigs read read_after (Err Read) × (written_after ≡ written)
Audited sigs read read_after written written_after (Err Memory) = written_after ≡ written
Audited sigs read read_after written written_after (Err failure) = ⊥
