-- What a use makes of the entries of a journal, and how the reading of one ends.
use Rattle.std.specs.Prelude.{ℕ, ◌+◌, ◌<◌, ◌≤◌, ◌≡◌, Bool, true, false, List, ◌∷◌, ◌++◌, length}
use Rattle.std.specs.Prelude.{Result, Ok, Err}
use Rattle.bpf_helpers.specs.Promise.{Promise}
use Rattle.acdm_lines.specs.Counted.{SourceView}
use Rattle.acdm_lines.specs.Lines.{IsLine, most_held}
use Rattle.acdm_step.specs.declared.entry.Entry.{Entry}
use Rattle.acdm_step.specs.Commands.{History}
use Rattle.acdm_step.specs.History.{Board, IsLegal, replay}
use Rattle.acdm_step.specs.Prepared.{Fits, after_change}
use Rattle.acdm_journal.specs.declared.judge.AuditError.{AuditError}
use Rattle.acdm_journal.specs.declared.judge.AuditError.TheVariants as errors
use Rattle.acdm_journal.specs.declared.judge.Clause.{Clause}
use Rattle.acdm_journal.specs.declared.judge.Clause.TheVariants.{Unreadable}
use Rattle.acdm_journal.specs.declared.judge.PlannedEntry.{PlannedEntry}
use Rattle.acdm_journal.specs.declared.journal_reader.JournalEnd.{JournalEnd}
use Rattle.acdm_journal.specs.declared.journal_reader.JournalEnd.TheVariants as ends
use Rattle.acdm_journal.specs.declared.journal_reader.TheConstants.{MOST_KEPT}
use Rattle.acdm_journal.specs.Audit.{Breaks, Continues}
use Rattle.acdm_journal.specs.Text.{history_text}
use Rattle.acdm_journal.specs.Whole.{GaveFaulty, GaveLegal, GaveUnended}

-- ---- one entry

-- the entry that the next line of a legal history tells of, and a plan of it on the board of that history
pub record IsNext (sigs : List (ℕ × Promise)) (J : History) (line : List ℕ) (n : PlannedEntry)
    : Type 0 where
  pub continues : Continues sigs J line (after_change (replay sigs J) n.plan.change)
  pub entry_is : continues.entry ≡ n.entry
  pub fits : Fits (replay sigs J) n.plan.change

-- a use, begun so at such a place, has entries behind which this one is next
pub record MayTake {U P : Type 0} (sigs : U → P → List (ℕ × Promise)) (has : U → P → History → Type 0)
    (line : List ℕ) (n : PlannedEntry) : Type 0 where
  pub first : U
  pub at : P
  pub history : History
  pub taken : has first at history
  pub next : IsNext (sigs first at) history line n

-- what comes of an entry behind these: a use has it too, or stops
abbrev pub UsesEntry : {T S : Type 0} → (History → Type 0) → (History → S → Type 0) → History → Entry
    → Result T S → Type 0
UsesEntry has stops J e (Ok x) = has (e ∷ J)
UsesEntry has stops J e (Err s) = stops J s

-- ---- how a journal ends

-- The reader gave a text with this first fault, and a use has the entries before it. Behind their text
-- no more was read than is kept of a line and one read gives, where that is looked for.
pub record FindsFault {R : Type 0} (sigs : List (ℕ × Promise)) (bounded : Bool) (has : History → Type 0)
    (old new : SourceView R) (entry : ℕ) (clause : Clause) : Type 0 where
  pub gave : GaveFaulty sigs old.log new.log new.ended entry clause
  pub taken : has gave.first.front
  pub soon : bounded ≡ true → length gave.first.rest ≤ MOST_KEPT + most_held
  pub well : new.faults ≡ old.faults

-- a use stopped behind these entries, whose text the reader gave, and more
pub record StopsBehind {R : Type 0} (stops : History → Type 0) (old new : SourceView R) : Type 0 where
  pub history : History
  pub rest : List ℕ
  pub why : stops history
  pub gave : new.log ≡ old.log ++ (history_text history ++ rest)
  pub more : 0 < length rest
  pub well : new.faults ≡ old.faults

-- How the reading of a journal for a use of it ends: what the reader gave, and which entries the use has
-- then. Without memory it has some legal ones.
abbrev pub ReadsJournal : {R S : Type 0} → List (ℕ × Promise) → Bool → (History → Type 0)
    → (History → S → Type 0) → SourceView R → SourceView R → JournalEnd S → Type 0
ReadsJournal sigs bounded has stops old new (ends.Whole n) =
    (g : GaveLegal sigs old.log new.log new.ended n) × has g.history × (new.faults ≡ old.faults)
ReadsJournal sigs bounded has stops old new (ends.Rest n) =
    (f : FindsFault sigs bounded has old new n Unreadable)
    × IsLine f.gave.first.rest × (bounded ≡ false → new.ended ≡ true)
ReadsJournal sigs bounded has stops old new (ends.Faulty entry clause) =
    FindsFault sigs bounded has old new entry clause
ReadsJournal sigs bounded has stops old new ends.Read =
    (g : GaveUnended sigs old.log new.log old.faults new.faults)
    × has g.front × (bounded ≡ true → length g.part ≤ MOST_KEPT + most_held)
ReadsJournal sigs bounded has stops old new ends.Memory =
    (J : History) × IsLegal sigs J × has J × (new.faults ≡ old.faults)
ReadsJournal sigs bounded has stops old new (ends.Stopped s) = StopsBehind (λ J. stops J s) old new

-- ---- parts

-- what comes of judging the next line of a legal history, and of planning its entry
abbrev pub PlansNext : List (ℕ × Promise) → History → List ℕ → Result PlannedEntry AuditError → Type 0
PlansNext sigs J line (Ok n) = IsNext sigs J line n
PlansNext sigs J line (Err (errors.Faulty clause)) = Breaks sigs J line clause
PlansNext sigs J line (Err errors.Memory) = Unit {0}

-- what comes of the next line of a legal history: a use has its entry, or this ends the reading
abbrev pub UsesLine : {T S : Type 0} → List (ℕ × Promise) → (History → Type 0)
    → (History → S → Type 0) → History → List ℕ → Result T (JournalEnd S) → Type 0
UsesLine sigs has stops J line (Ok x) =
    (board : Board) × (k : Continues sigs J line board) × has (k.entry ∷ J)
UsesLine sigs has stops J line (Err (ends.Faulty entry clause)) =
    (entry ≡ length J) × Breaks sigs J line clause × has J
UsesLine sigs has stops J line (Err ends.Memory) = has J
UsesLine sigs has stops J line (Err (ends.Stopped s)) = stops J s
UsesLine sigs has stops J line (Err end) = ⊥
