-- What a desk has of a saved journal (this project's profile).
use Rattle.std.specs.Prelude.{ℕ, ◌+◌, ◌^◌, ◌<◌, ◌≤◌, ◌≡◌, ◌⊎◌, true, Bool, List, ◌∷◌, ◌++◌, length}
use Rattle.std.specs.Prelude.{Option, Some, None, Result, Ok, Err}
use Rattle.bpf_helpers.specs.Promise.{Promise}
use Rattle.acdm_lines.specs.Counted.{SourceView}
use Rattle.acdm_lines.specs.Lines.{IsLine}
use Rattle.acdm_lines.specs.NextLine.{FailsOrEndless}
use Rattle.acdm_step.specs.declared.entry.Entry.{Entry}
use Rattle.acdm_step.specs.Commands.{History}
use Rattle.acdm_board.specs.Desk.{DeskView}
use Rattle.acdm_journal.specs.declared.judge.Clause.{Clause}
use Rattle.acdm_journal.specs.declared.journal_reader.JournalEnd.{JournalEnd}
use Rattle.acdm_journal.specs.declared.journal_reader.JournalEnd.TheVariants as ends
use Rattle.acdm_journal.specs.Audit.{Breaks}
use Rattle.acdm_journal.specs.Behind.{GaveBehind}
use Rattle.acdm_journal.specs.Text.{history_text}
use Rattle.acdm_journal.specs.Whole.{AreReadable, GaveFaulty, GaveUnended}
use Rattle.acdm_restoring.specs.declared.restoring.RestoreError.{RestoreError}
use Rattle.acdm_restoring.specs.declared.restoring.RestoreError.TheVariants as errors

-- the reader gave the text of these entries and a rest without a line feed, and has ended
pub record GaveAll (sigs : List (ℕ × Promise)) (J : History) (log log_after : List ℕ) (ended : Bool)
    (bytes : ℕ) : Type 0 where
  pub rest : List ℕ
  pub is_rest : IsLine rest
  pub gave : log_after ≡ log ++ (history_text J ++ rest)
  pub at_end : ended ≡ true
  pub readable : AreReadable sigs J
  pub bytes_are : bytes ≡ length (history_text J)

-- The reader gave the text of these entries and more, and there is no room: for an entry, or for the
-- number of bytes of their text.
pub record GaveMore (capacity : ℕ) (J : History) (log log_after : List ℕ) : Type 0 where
  pub more : List ℕ
  pub gave : log_after ≡ log ++ (history_text J ++ more)
  pub full : ((length J ≡ capacity) × (0 < length more))
      ⊎ (2 ^ 64 ≤ length (history_text J))

-- What comes of reading a saved journal into a desk that has no entry: after an error, the desk has
-- entries of a legal text before the fault.
abbrev pub Restores : {R : Type 0} → DeskView → DeskView → SourceView R → SourceView R
    → Result ℕ RestoreError → Type 0
Restores before after old new (Ok bytes) =
    GaveAll before.sigs after.history old.log new.log new.ended bytes
    × (after ≡ record before { history = after.history }) × (new.faults ≡ old.faults)
Restores before after old new (Err (errors.Faulty entry clause)) =
    GaveFaulty before.sigs old.log new.log new.ended entry clause
    × (new.faults ≡ old.faults)
Restores before after old new (Err errors.Full) =
    GaveMore before.capacity after.history old.log new.log × (new.faults ≡ old.faults)
Restores before after old new (Err errors.Read) =
    GaveUnended before.sigs old.log new.log old.faults new.faults
Restores before after old new (Err errors.Memory) = new.faults ≡ old.faults

-- ---- behind entries that a desk has

-- a desk with newer entries behind those that it has
abbrev pub with_entries : DeskView → List Entry → DeskView
with_entries desk newer = record desk { history = newer ++ desk.history }

-- The first line of a rest breaks this clause first, behind a history of so many entries.
pub record IsFaulty (sigs : List (ℕ × Promise)) (J : History) (rest : List ℕ) (entry : ℕ) (clause : Clause)
    : Type 0 where
  pub count : length J ≡ entry
  pub line : List ℕ
  pub later : List ℕ
  pub is_line : IsLine line
  pub split : rest ≡ line ++ 10 ∷ later
  pub breaks : Breaks sigs J line clause

-- There is no room for what comes: for an entry, or for the number of bytes of the text of those that were put there.
abbrev pub LacksRoom : ℕ → History → List ℕ → List ℕ → Type 0
LacksRoom capacity J text rest =
    ((length J ≡ capacity) × (0 < length rest)) ⊎ (2 ^ 64 ≤ length text)

-- Why no more was put behind these entries, of whose text the newer ones have this, where this rest was read behind it.
abbrev pub EndsRestoring : {R : Type 0} → DeskView → SourceView R → SourceView R → List ℕ → List ℕ
    → Result ℕ RestoreError → Type 0
EndsRestoring desk old new text rest (Ok bytes) =
    IsLine rest × (new.ended ≡ true) × (bytes ≡ length text) × (new.faults ≡ old.faults)
EndsRestoring desk old new text rest (Err (errors.Faulty entry clause)) =
    IsFaulty desk.sigs desk.history rest entry clause × (new.faults ≡ old.faults)
EndsRestoring desk old new text rest (Err errors.Full) =
    LacksRoom desk.capacity desk.history text rest × (new.faults ≡ old.faults)
EndsRestoring desk old new text rest (Err errors.Read) =
    IsLine rest × FailsOrEndless old.faults new.faults (text ++ rest)
EndsRestoring desk old new text rest (Err errors.Memory) = new.faults ≡ old.faults

-- What comes of reading what stands behind a desk's entries in a journal: whether it ends by an error or not, the
-- desk has those entries more whose text the reader gave, and with which its history stays legal.
abbrev pub RestoresBehind : {R : Type 0} → DeskView → DeskView → SourceView R → SourceView R
    → Result ℕ RestoreError → Type 0
RestoresBehind before after old new result =
    (g : GaveBehind before.sigs before.history old.log new.log) × (after ≡ with_entries before g.newer)
    × EndsRestoring (with_entries before g.newer) old new (history_text g.newer) g.rest result

-- ---- parts

-- a count of bytes, or none where they are too many
abbrev pub IsCount : Option ℕ → ℕ → Type 0
IsCount (Some n) bytes = n ≡ bytes
IsCount None bytes = 2 ^ 64 ≤ bytes

-- how many bytes a text has more than it had, or none where they are too many
abbrev pub IsGrowth : Option ℕ → ℕ → ℕ → Type 0
IsGrowth (Some n) before bytes = bytes ≡ before + n
IsGrowth None before bytes = before + 2 ^ 64 ≤ bytes

-- what is answered where reading has ended so, and the text of the entries has so many bytes
abbrev pub answer_of : JournalEnd RestoreError → Option ℕ → Result ℕ RestoreError
answer_of (ends.Whole n) (Some bytes) = Ok bytes
answer_of (ends.Whole n) None = Err errors.Full
answer_of (ends.Rest n) (Some bytes) = Ok bytes
answer_of (ends.Rest n) None = Err errors.Full
answer_of (ends.Faulty entry clause) bytes = Err (errors.Faulty entry clause)
answer_of ends.Read bytes = Err errors.Read
answer_of ends.Memory bytes = Err errors.Memory
answer_of (ends.Stopped error) bytes = Err error

-- a desk has these entries, and nothing else has changed of it; the bytes of those were counted that it had not at
-- first
pub record HasEntries (first desk : DeskView) (bytes : Option ℕ) (J : History) : Type 0 where
  pub desk_is : desk ≡ record first { history = J }
  pub counted : IsGrowth bytes (length (history_text first.history)) (length (history_text J))

-- why a desk that has these entries takes no more
abbrev pub StopsAt : DeskView → DeskView → History → RestoreError → Type 0
StopsAt first desk J errors.Full =
    (desk ≡ record first { history = J })
    × ((length J ≡ first.capacity)
    ⊎ (length (history_text first.history) + 2 ^ 64 ≤ length (history_text J)))
StopsAt first desk J errors.Memory = desk ≡ record first { history = J }
StopsAt first desk J error = ⊥
