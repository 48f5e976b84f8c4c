-- What is told of the bytes of a program with what is known before each slot.
use Rattle.std.specs.Prelude.{ℕ, ◌≡◌, ◌⊎◌, true, if◌then◌else◌, List, [], ◌∷◌, ◌++◌, codes}
use Rattle.std.specs.Prelude.{Result, Ok, Err}
use Rattle.bpf_explain.specs.declared.told.Told.{Told}
use Rattle.bpf_explain.specs.Told.{Tells, is_accepted}
use Rattle.bpf_helpers.specs.Promise.{Promise}
use Rattle.bpf_regstate.specs.declared.length.Length.{Length}
use Rattle.acdm_lines.specs.Counted.{SinkView, SourceView, faults_after}
use Rattle.acdm_judging.specs.Gave.{GaveBytes, most_bytes}
use Rattle.acdm_failures.specs.declared.failure.Failure.{Failure}
use Rattle.acdm_failures.specs.declared.failure.Failure.TheVariants.{Read, Write, Memory}
use Rattle.acdm_failures.specs.Failures.{Complains, failure_text}

-- the status of the command, which is that of `verify`
abbrev pub status_of : Told → ℕ
status_of told = if is_accepted told then 0 else 1

-- what is told is of these bytes, beside records of this length
pub record TellsOf (sigs : List (ℕ × Promise)) (long : Length) (bytes : List ℕ) (status : ℕ)
    : Type 0 where
  pub told : Told
  pub tells : Tells sigs long bytes told
  pub status_is : status ≡ status_of told

abbrev pub TellsBytes : List (ℕ × Promise) → Length → List ℕ → Result ℕ Failure → Type 0
TellsBytes sigs long bytes (Ok status) = TellsOf sigs long bytes status
TellsBytes sigs long bytes (Err Write) = Unit {0}
TellsBytes sigs long bytes (Err Memory) = Unit {0}
TellsBytes sigs long bytes (Err failure) = ⊥

-- what comes of explaining what a reader gives, where that did not fail
abbrev pub Explains : {R : Type 0} → List (ℕ × Promise) → Length → SourceView R → SourceView R
    → Result ℕ Failure → Type 0
Explains sigs long read read_after work =
    ((bytes : List ℕ) × GaveBytes most_bytes read read_after bytes × TellsBytes sigs long bytes work)
    ⊎ (work ≡ Err Memory)

-- what is said of the file of a path that can't be read: the line of that failure, and one that names the
-- path and says why, in words that are not known beforehand
abbrev pub unread_text : List ℕ → List ℕ → List ℕ
unread_text path why =
    failure_text Read ++ (codes "acdm: " ++ (path ++ (codes ": " ++ (why ++ 10 ∷ []))))

-- that was written on the errors' writer, or the line of the failure alone, where memory was refused; or
-- it failed once more after a first part of it
pub record TellsUnread {E : Type 0} (path : List ℕ) (errors errors_after : SinkView E) : Type 0 where
  pub text : List ℕ
  pub is : ((why : List ℕ) × (text ≡ unread_text path why)) ⊎ (text ≡ failure_text Read)
  pub told : Complains errors errors_after text

-- the reader of the file of a path failed once more, that was said, nothing was written, and the status
-- is 2
pub record FailsToRead {R W E : Type 0} (path : List ℕ) (read read_after : SourceView R)
    (written written_after : SinkView W) (status : ℕ) (errors errors_after : SinkView E) : Type 0 where
  pub fault : read_after.faults ≡ faults_after true read.faults
  pub same : written_after ≡ written
  pub status_is : status ≡ 2
  pub told : TellsUnread path errors errors_after
