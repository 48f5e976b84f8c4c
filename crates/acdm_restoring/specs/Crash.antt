-- What is gone on from, where a crash has left it of a journal that is kept in a file.
use Rattle.std.specs.Prelude.{ℕ, ◌≡◌, List, ◌++◌, length}
use Rattle.bpf_helpers.specs.Promise.{Promise}
use Rattle.acdm_step.specs.declared.entry.Entry.{Entry}
use Rattle.acdm_step.specs.Commands.{History}
use Rattle.acdm_step.specs.History.{IsLegal}
use Rattle.acdm_journal.specs.Crash.{CrashLeaves}
use Rattle.acdm_journal.specs.Text.{history_text}
use Rattle.acdm_journal.specs.Whole.{AreReadable}

-- a journal that was being written, and its first entries, which stood on the disk
pub record WasKept (sigs : List (ℕ × Promise)) (written kept : History) : Type 0 where
  pub legal : IsLegal sigs written
  pub readable : AreReadable sigs written
  pub newer : List Entry
  pub split : written ≡ newer ++ kept

-- the first entries of what was written, and all of those that were kept
pub record HasKept (written kept found : History) : Type 0 where
  pub lost : List Entry
  pub written_is : written ≡ lost ++ found
  pub more : List Entry
  pub found_is : found ≡ more ++ kept

-- Whatever journal was being written, where a crash may leave what a reader gave: a desk has the first entries of that
-- journal, and all of those that were kept.
abbrev pub GoesOnFrom : List (ℕ × Promise) → List ℕ → List ℕ → History → Type 0
GoesOnFrom sigs log log_after found =
    (written kept : History) (left : List ℕ) → WasKept sigs written kept
    → CrashLeaves (history_text written) (length (history_text kept)) left → log_after ≡ log ++ left
    → HasKept written kept found
