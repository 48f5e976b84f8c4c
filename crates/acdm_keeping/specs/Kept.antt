-- What is kept of a journal.
use Rattle.std.specs.Prelude.{◌≡◌, ◌≤◌, ◌<◌, Bool, ℕ, [], ◌++◌, List, length, reverse, Option, MatchOption}
use Rattle.acdm_failures.specs.declared.failure.Failure.{Failure}
use Rattle.acdm_failures.specs.declared.failure.Failure.TheVariants.{Memory, Save}
use Rattle.acdm_journal.specs.Crash.{CrashLeaves}
use Rattle.acdm_journal.specs.Text.{history_text}
use Rattle.acdm_journal.specs.Whole.{Saves}
use Rattle.acdm_lines.specs.Counted.{SinkView}
use Rattle.acdm_row.specs.Views.{RowView}
use Rattle.acdm_step.specs.declared.entry.Entry.{Entry}

-- the row that is followed, its entries that were seen, the writer that they are kept by, and whether that has failed
pub record KeeperView (W : Type 0) : Type 0 where
  pub row : RowView
  pub seen : List Entry
  pub writer : SinkView W
  pub has_failed : Bool

-- Entries that were seen since are kept: whatever stands before these bytes, where the text of what had
-- been seen stood there, from a start on, the text of what is seen then does.
abbrev pub Keeps : List Entry → List Entry → List ℕ → List ℕ → Type 0
Keeps seen later old new = (before start : List ℕ) → Saves (reverse seen) start (before ++ old)
    → Saves (reverse later) start (before ++ new)

-- keeping ends early where the writer failed, or where memory was refused, and for nothing else
abbrev pub CutsShort : Failure → Type 0
CutsShort Save = Unit {0}
CutsShort Memory = Unit {0}
CutsShort _ = ⊥

-- Why it did: it is put down to the writer only where that has failed since it was new, and else to want of memory.
abbrev pub Blames : {W : Type 0} → SinkView W → Failure → Type 0
Blames writer Save = 0 < writer.faults
Blames writer Memory = Unit {0}
Blames writer _ = ⊥

-- entries were seen behind others
abbrev pub SeesOn : List Entry → List Entry → Type 0
SeesOn seen later = (more : List Entry) × (later ≡ seen ++ more)

-- Some of what was gathered behind these bytes was written, in order, and nothing else: with the rest, it is the text of
-- the first of the entries that were seen.
pub record IsWriting (seen later : List Entry) (old new : List ℕ) : Type 0 where
  pub taken : List Entry
  pub behind : SeesOn seen taken
  pub within : SeesOn taken later
  pub rest : List ℕ
  pub keeps : Keeps seen taken old (new ++ rest)

-- a log has these bytes still, and may have more behind them
abbrev pub GrowsFrom : List ℕ → List ℕ → Type 0
GrowsFrom old new = (added : List ℕ) × (new ≡ old ++ added)

-- What a crash at any moment of a call may leave of a file: what it had before the call, which stood on the disk, and a
-- first part of what was written in it, and was still to be written where that was cut short.
abbrev pub LeavesDuring : List ℕ → List ℕ → List ℕ → Type 0
LeavesDuring before tried left = CrashLeaves tried (length before) left

-- However a call goes, whatever was in the file before the writer, where that and what the writer had taken is the text
-- of what had been seen: at any moment of the call a crash may leave no more than that of a text of entries, the first
-- ones of those that are seen by its end, which has all of those that had been seen before it.
pub record AtAnyMoment (seen later : List Entry) (old new : List ℕ) : Type 0 where
  pub grows : GrowsFrom old new
  pub taken : List Entry
  pub behind : SeesOn seen taken
  pub within : SeesOn taken later
  pub rest : List ℕ
  pub saves : (before : List ℕ) → Saves (reverse seen) [] (before ++ old)
      → Saves (reverse taken) [] (before ++ (new ++ rest))
  pub crash : (before left : List ℕ) → Saves (reverse seen) [] (before ++ old)
      → LeavesDuring (before ++ old) (before ++ (new ++ rest)) left
      → CrashLeaves (history_text (reverse taken)) (length (history_text (reverse seen))) left

-- ---- a keeper that is shared

-- the keeper, and how many entries it has told to be kept
pub record SharedView (W : Type 0) : Type 0 where
  pub keeper : KeeperView W
  pub kept : ℕ

-- Of the entries that were seen, the text of the first ones, so many, stands in front of all that a writer has taken,
-- behind the opening ones, whatever it has taken since.
pub record Stands (opening seen : List Entry) (kept : ℕ) (log : List ℕ) : Type 0 where
  pub taken : List Entry
  pub count : length taken ≡ kept
  pub behind : SeesOn opening taken
  pub within : SeesOn taken seen
  pub front : List ℕ
  pub first : GrowsFrom front log
  pub keeps : Keeps opening taken [] front

-- The text of all entries that the latest receipt is for, if there is one, stands in front of all that a writer has
-- taken, behind the opening ones, whatever it has taken since.
pub record StandsFor (opening : List Entry) (latest : Option ℕ) (seen : List Entry) (log : List ℕ) : Type 0 where
  pub kept : ℕ
  pub covered : MatchOption latest (Unit {0}) (λ count. count ≤ kept)
  pub stands : Stands opening seen kept log
