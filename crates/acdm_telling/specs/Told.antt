-- What is told of a saved journal (this project's profile).
use Rattle.std.specs.Prelude.{ℕ, ◌≡◌, ◌⊎◌, false, List, [], ◌++◌, length, Option, Some, None}
use Rattle.std.specs.Prelude.{Result, Ok, Err}
use Rattle.bpf_helpers.specs.Promise.{Promise}
use Rattle.acdm_lines.specs.Counted.{SinkView, SourceView}
use Rattle.acdm_lines.specs.declared.run_error.RunError.{RunError}
use Rattle.acdm_lines.specs.declared.run_error.RunError.TheVariants as errors
use Rattle.acdm_step.specs.Commands.{History}
use Rattle.acdm_step.specs.History.{IsLegal}
use Rattle.acdm_journal.specs.Text.{history_text}
use Rattle.acdm_journal.specs.Whole.{AreReadable}
use Rattle.acdm_wire.specs.Writes.{AppendsPart, Wrote, WroteInPart}
use Rattle.acdm_judging.specs.Findings.{Finds, finding_text, status_of}
use Rattle.acdm_judging.specs.declared.auditing.Finding.{Finding}
use Rattle.acdm_judging.specs.declared.auditing.Finding.TheVariants.{Legal, Faulty}
use Rattle.acdm_failures.specs.declared.failure.Failure.{Failure}
use Rattle.acdm_failures.specs.declared.failure.Failure.TheVariants.{Read, Write, Memory}
use Rattle.acdm_feed.specs.Told.{feed}

-- the reader gave the text of these entries, which are legal, and this rest
pub record Gives {R : Type 0} (sigs : List (ℕ × Promise)) (J : History) (rest : List ℕ)
    (read read_after : SourceView R) : Type 0 where
  pub legal : IsLegal sigs J
  pub readable : AreReadable sigs J
  pub gave : read_after.log ≡ read.log ++ (history_text J ++ rest)

-- how many entries stand before what was found
abbrev pub entries_before : Finding → ℕ
entries_before (Legal n) = n
entries_before (Faulty entry clause) = entry

-- nothing stands behind the entries of a legal journal
abbrev pub LeavesRest : Finding → List ℕ → Type 0
LeavesRest (Legal n) rest = rest ≡ []
LeavesRest (Faulty entry clause) rest = Unit {0}

-- what is told behind the feed: nothing of a legal journal, else the first fault, as an audit tells it
abbrev pub told_of : Finding → List ℕ
told_of (Legal n) = []
told_of (Faulty entry clause) = finding_text (Faulty entry clause)

abbrev pub told_last : Option Finding → List ℕ
told_last None = []
told_last (Some finding) = told_of finding

-- What was found in what a reader gives, as an audit finds it; the entries before it, whose text the
-- reader gave first; and the feed of these was written, and what was found, of which no byte waits for
-- a flush.
pub record TellsAll {R W : Type 0} (sigs : List (ℕ × Promise)) (read read_after : SourceView R)
    (written written_after : SinkView W) (status : ℕ) : Type 0 where
  pub finding : Finding
  pub finds : Finds sigs read read_after (Ok finding)
  pub history : History
  pub rest : List ℕ
  pub gives : Gives sigs history rest read read_after
  pub count : length history ≡ entries_before finding
  pub leaves : LeavesRest finding rest
  pub told : Wrote written written_after (feed history ++ told_of finding)
  pub flushed : written_after.waits ≡ false
  pub status_is : status ≡ status_of finding

-- no more could be read, and the feed of the entries before was written
pub record TellsUnended {R W : Type 0} (sigs : List (ℕ × Promise)) (read read_after : SourceView R)
    (written written_after : SinkView W) : Type 0 where
  pub unended : Finds sigs read read_after (Err Read)
  pub history : History
  pub rest : List ℕ
  pub gives : Gives sigs history rest read read_after
  pub told : Wrote written written_after (feed history)

-- the writer failed once more after a first part of the feed of a legal history, and of what was found
pub record FailsToTell {W : Type 0} (sigs : List (ℕ × Promise)) (written written_after : SinkView W)
    : Type 0 where
  pub history : History
  pub legal : IsLegal sigs history
  pub last : Option Finding
  pub told : WroteInPart written written_after (feed history ++ told_last last) errors.Write

-- a first part of the feed of a legal history was written
pub record TellsPart {W : Type 0} (sigs : List (ℕ × Promise)) (written written_after : SinkView W)
    : Type 0 where
  pub history : History
  pub legal : IsLegal sigs history
  pub told : AppendsPart written.log written_after.log (feed history)

-- what comes of telling a journal that a reader gives
abbrev pub Told : {R W : Type 0} → List (ℕ × Promise) → SourceView R → SourceView R → SinkView W
    → SinkView W → Result ℕ Failure → Type 0
Told sigs read read_after written written_after (Ok status) =
    TellsAll sigs read read_after written written_after status
Told sigs read read_after written written_after (Err Write) = FailsToTell sigs written written_after
Told sigs read read_after written written_after (Err Read) =
    TellsUnended sigs read read_after written written_after
Told sigs read read_after written written_after (Err Memory) = TellsPart sigs written written_after
Told sigs read read_after written written_after (Err failure) = ⊥

-- ---- parts

-- the lines of these entries were written, or stand in this text to be written yet
pub record Gathers {W : Type 0} (J : History) (text : List ℕ) (written written_after : SinkView W)
    : Type 0 where
  pub done : List ℕ
  pub wrote : Wrote written written_after done
  pub whole : done ++ text ≡ feed J

-- what was found, and the entries before it, whose lines were gathered
pub record Gathered {R W : Type 0} (sigs : List (ℕ × Promise)) (finding : Finding) (text : List ℕ)
    (read read_after : SourceView R) (written written_after : SinkView W) : Type 0 where
  pub finds : Finds sigs read read_after (Ok finding)
  pub history : History
  pub rest : List ℕ
  pub gives : Gives sigs history rest read read_after
  pub count : length history ≡ entries_before finding
  pub leaves : LeavesRest finding rest
  pub gathers : Gathers history text written written_after

-- what was gathered was written where it is much
abbrev pub WritesMany : {W T : Type 0} → SinkView W → SinkView W → List ℕ → List ℕ → Result T RunError
    → Type 0
WritesMany old new text text_after (Ok x) =
    ((new ≡ old) × (text_after ≡ text)) ⊎ (Wrote old new text × (text_after ≡ []))
WritesMany old new text text_after (Err e) = WroteInPart old new text errors.Write

-- the rest of the lines was written, and what was found, or the writer failed
abbrev pub TellsFound : {W : Type 0} → Finding → List ℕ → SinkView W → SinkView W → Result ℕ Failure
    → Type 0
TellsFound finding text old new (Ok status) =
    Wrote old new (text ++ told_of finding) × (new.waits ≡ false) × (status ≡ status_of finding)
TellsFound finding text old new (Err failure) =
    WroteInPart old new (text ++ told_of finding) errors.Write × (failure ≡ Write)
