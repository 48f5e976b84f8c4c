-- What an audit says of a whole text (this project's profile).
use Rattle.std.specs.Prelude.{ℕ, ◌+◌, ◌<◌, ◌≤◌, ◌≡◌, ◌⊎◌, List, [], ◌∷◌, ◌++◌, length, Bool, true}
use Rattle.std.specs.Prelude.{Result, Ok, Err}
use Rattle.std.specs.List.{AllByRecursion}
use Rattle.bpf_helpers.specs.Promise.{Promise}
use Rattle.acdm_lines.specs.Counted.{SourceView}
use Rattle.acdm_lines.specs.Lines.{IsLine, most_held}
use Rattle.acdm_lines.specs.NextLine.{FailsOrEndless}
use Rattle.acdm_step.specs.declared.entry.Entry.{Entry}
use Rattle.acdm_step.specs.Commands.{History}
use Rattle.acdm_step.specs.History.{IsLegal}
use Rattle.acdm_journal.specs.declared.judge.Clause.{Clause}
use Rattle.acdm_journal.specs.declared.judge.Clause.TheVariants as clauses
use Rattle.acdm_journal.specs.declared.auditing.Fault.{Fault}
use Rattle.acdm_journal.specs.declared.auditing.Fault.TheVariants as faults
use Rattle.acdm_journal.specs.Text.{line_of, stated_in, asked_in, history_text}
use Rattle.acdm_journal.specs.Ranges.{IsStated, FitsTypes}
use Rattle.acdm_journal.specs.Audit.{IsCommandOf, Breaks}
use Rattle.acdm_journal.specs.declared.reading.TheConstants.{LONGEST_ENTRY}
use Rattle.acdm_journal.specs.declared.journal_reader.TheConstants.{MOST_KEPT}

-- The line of an entry is one that may be read: its parts are in their ranges, a program that it
-- loads is one, accepted under these signatures, and the line has at most 200,000 bytes.
pub record IsReadable (sigs : List (ℕ × Promise)) (e : Entry) : Type 0 where
  pub stated : IsStated (stated_in e)
  pub command : IsCommandOf sigs (asked_in e.command) e.command
  pub short : length (line_of (stated_in e)) ≤ LONGEST_ENTRY

abbrev pub AreReadable : List (ℕ × Promise) → History → Type 0
AreReadable sigs [] = Unit {0}
AreReadable sigs (e ∷ J) = AreReadable sigs J × IsReadable sigs e

-- a text is that of this legal history
pub record IsTextOf (sigs : List (ℕ × Promise)) (text : List ℕ) (J : History) : Type 0 where
  pub legal : IsLegal sigs J
  pub readable : AreReadable sigs J
  pub text_is : text ≡ history_text J

-- Behind the text of a legal history stands a line that breaks this clause first, or a rest without
-- a line feed, which can't be read.
pub data BreaksNext (sigs : List (ℕ × Promise)) (J : History) (rest : List ℕ) (clause : Clause)
    : Type 0 where
  at_line : (line later : List ℕ) → IsLine line → rest ≡ line ++ 10 ∷ later
      → Breaks sigs J line clause → BreaksNext sigs J rest clause
  at_end : IsLine rest → 0 < length rest → clause ≡ clauses.Unreadable
      → BreaksNext sigs J rest clause

-- The first fault of a text: behind the text of a legal history of so many entries stands one that
-- breaks this clause first. No legal history of more entries stands there, which is a law of `law`.
pub record FirstFault (sigs : List (ℕ × Promise)) (text : List ℕ) (entry : ℕ) (clause : Clause)
    : Type 0 where
  pub front : History
  pub rest : List ℕ
  pub legal : IsLegal sigs front
  pub readable : AreReadable sigs front
  pub text_is : text ≡ history_text front ++ rest
  pub count : length front ≡ entry
  pub breaks : BreaksNext sigs front rest clause

-- ---- what comes of an audit

-- The reader gave the text of a legal history of so many entries, and nothing else, and has ended.
pub record GaveLegal (sigs : List (ℕ × Promise)) (log log_after : List ℕ) (ended : Bool)
    (count : ℕ) : Type 0 where
  pub text : List ℕ
  pub history : History
  pub gave : log_after ≡ log ++ text
  pub at_end : ended ≡ true
  pub is : IsTextOf sigs text history
  pub count_is : length history ≡ count

-- The reader gave a text with this first fault. It has ended, or whatever it gives later does not
-- change that.
pub record GaveFaulty (sigs : List (ℕ × Promise)) (log log_after : List ℕ) (ended : Bool)
    (entry : ℕ) (clause : Clause) : Type 0 where
  pub text : List ℕ
  pub gave : log_after ≡ log ++ text
  pub first : FirstFault sigs text entry clause
  pub stays : (ended ≡ true)
      ⊎ ((later : List ℕ) → FirstFault sigs (text ++ later) entry clause)

-- A fault was found, and behind the text of the entries before it no more was read than is kept of a
-- line and one read gives.
abbrev pub FoundFaulty : List (ℕ × Promise) → List ℕ → List ℕ → Bool → ℕ → Clause → Type 0
FoundFaulty sigs log log_after ended entry clause =
    (g : GaveFaulty sigs log log_after ended entry clause)
    × (length g.first.rest ≤ MOST_KEPT + most_held)

-- No more could be read: the reader gave the text of a legal history and a part of a line, and then
-- failed or was endless.
pub record GaveUnended (sigs : List (ℕ × Promise)) (log log_after : List ℕ)
    (faults later_faults : ℕ) : Type 0 where
  pub front : History
  pub part : List ℕ
  pub legal : IsLegal sigs front
  pub readable : AreReadable sigs front
  pub is_part : IsLine part
  pub gave : log_after ≡ log ++ (history_text front ++ part)
  pub why : FailsOrEndless faults later_faults (history_text front ++ part)

-- No more could be read, and behind the text of the entries before no more was read than is kept of a
-- line and one read gives.
abbrev pub FoundUnended : List (ℕ × Promise) → List ℕ → List ℕ → ℕ → ℕ → Type 0
FoundUnended sigs log log_after faults later_faults =
    (g : GaveUnended sigs log log_after faults later_faults) × (length g.part ≤ MOST_KEPT + most_held)

-- what comes of an audit of what a reader gives
abbrev pub Audits : {R : Type 0} → List (ℕ × Promise) → SourceView R → SourceView R
    → Result ℕ Fault → Type 0
Audits sigs old new (Ok n) =
    GaveLegal sigs old.log new.log new.ended n × (new.faults ≡ old.faults)
Audits sigs old new (Err (faults.Faulty entry clause)) =
    FoundFaulty sigs old.log new.log new.ended entry clause × (new.faults ≡ old.faults)
Audits sigs old new (Err faults.Read) =
    FoundUnended sigs old.log new.log old.faults new.faults
Audits sigs old new (Err faults.Memory) = new.faults ≡ old.faults

-- ---- what was written

-- The text of a history was written behind what had been written, and the parts of its entries are
-- in the ranges of their types.
pub record Saves (J : History) (old new : List ℕ) : Type 0 where
  pub text : new ≡ old ++ history_text J
  pub types : AllByRecursion FitsTypes J

-- A reader that was to give these bytes gave them or a first part of them, and all where it has
-- ended.
pub record GaveOf (bytes log log_after : List ℕ) (ended : Bool) : Type 0 where
  pub rest : List ℕ
  pub split : log ++ bytes ≡ log_after ++ rest
  pub whole : ended ≡ true → rest ≡ []
