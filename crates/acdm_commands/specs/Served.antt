-- What `run` answers and saves, from an empty desk on, and how it ends.
use Rattle.std.specs.Prelude.{ℕ, ◌≡◌, ◌⊎◌, false, List, [], Option, Some, None, Result, Ok}
use Rattle.std.specs.Prelude.{Err}
use Rattle.bpf_helpers.specs.Promise.{Promise}
use Rattle.acdm_board.specs.Desk.{DeskView}
use Rattle.acdm_failures.specs.declared.failure.Failure.{Failure}
use Rattle.acdm_failures.specs.declared.failure.Failure.TheVariants as failures
use Rattle.acdm_journal.specs.Whole.{Saves}
use Rattle.acdm_lines.specs.Written.{HasFailed}
use Rattle.acdm_lines.specs.Counted.{SinkView, SourceView}
use Rattle.acdm_lines.specs.declared.run_error.RunError.{RunError}
use Rattle.acdm_lines.specs.declared.run_error.RunError.TheVariants as errors
use Rattle.acdm_sessions.specs.Run.{serving_desk}
use Rattle.acdm_sessions.specs.Stream.{AnswersLines}
use Rattle.acdm_step.specs.Commands.{History}

-- a desk with room for so many entries, and none in it
abbrev pub empty_desk : List (ℕ × Promise) → ℕ → List ℕ → DeskView
empty_desk sigs capacity cells = record {
  history = [];
  capacity = capacity;
  sigs = sigs;
  cells = cells;
}

-- a history was written behind what a writer had taken, where there is a writer, and no byte of it
-- waits for a flush
abbrev pub IsSaved : {F : Type 0} → History → Option (SinkView F) → Option (SinkView F) → Type 0
IsSaved J None None = Unit {0}
IsSaved J (Some old) (Some new) = Saves J old.log new.log × (new.waits ≡ false)
IsSaved J _ _ = ⊥

-- The lines of a reader were answered on a writer, as far as the result says, by a desk that was empty at
-- first, with room for so many entries, in some cells.
pub record ServesFromEmpty {R W : Type 0} (sigs : List (ℕ × Promise)) (capacity : ℕ) (desk : DeskView)
    (read read_after : SourceView R) (written written_after : SinkView W)
    (result : Result (Unit {0}) RunError) : Type 0 where
  pub cells : List ℕ
  pub lines : AnswersLines serving_desk read read_after written written_after
      (empty_desk sigs capacity cells) desk result

-- why not all lines were answered
abbrev pub Stops : {R W : Type 0} → List (ℕ × Promise) → ℕ → SourceView R → SourceView R
    → SinkView W → SinkView W → Failure → Type 0
Stops sigs capacity read read_after written written_after failures.Read =
    (desk : DeskView) × ServesFromEmpty sigs capacity desk read read_after written written_after
    (Err errors.Read)
Stops sigs capacity read read_after written written_after failures.Write =
    (desk : DeskView) × ServesFromEmpty sigs capacity desk read read_after written written_after
    (Err errors.Write)
Stops sigs capacity read read_after written written_after failures.Memory =
    (read_after ≡ read) × (written_after ≡ written)
Stops sigs capacity read read_after written written_after failure = ⊥

-- all lines were answered, and so much is known of what was kept of the history that the desk had then
pub record Runs {R W : Type 0} (sigs : List (ℕ × Promise)) (capacity : ℕ)
    (read read_after : SourceView R) (written written_after : SinkView W) (Kept : History → Type 0)
    : Type 0 where
  pub desk : DeskView
  pub serves : ServesFromEmpty sigs capacity desk read read_after written written_after (Ok tt)
  pub kept : Kept desk.history

-- why a history was not saved, where there is a writer to save it by: that failed at least once more, or
-- memory was refused
abbrev pub FailsToSave : {F : Type 0} → Option (SinkView F) → Option (SinkView F) → Failure → Type 0
FailsToSave (Some old) (Some new) failures.Save = HasFailed old new
FailsToSave (Some old) (Some new) failures.Memory = Unit {0}
FailsToSave saved saved_after failure = ⊥

-- What comes of a run: all was done, with the status 0; or not all lines were answered; or all were, and
-- what the desk had then was not saved.
abbrev pub RunsTo : {R W F : Type 0} → List (ℕ × Promise) → ℕ → SourceView R → SourceView R
    → SinkView W → SinkView W → Option (SinkView F) → Option (SinkView F) → Result ℕ Failure → Type 0
RunsTo sigs capacity read read_after written written_after saved saved_after (Ok status) =
    Runs sigs capacity read read_after written written_after (λ J. IsSaved J saved saved_after)
    × (status ≡ 0)
RunsTo sigs capacity read read_after written written_after saved saved_after (Err failure) =
    Stops sigs capacity read read_after written written_after failure
    ⊎ Runs sigs capacity read read_after written written_after
    (λ J. FailsToSave saved saved_after failure)
