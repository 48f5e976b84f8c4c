-- What a reader gives behind a legal history, and how the reading of that ends for a use that has the history.
use Rattle.std.specs.Prelude.{ℕ, ◌+◌, ◌<◌, ◌≤◌, ◌≡◌, ◌⊎◌, Bool, true, false, List, [], ◌∷◌, ◌++◌, length}
use Rattle.bpf_helpers.specs.Promise.{Promise}
use Rattle.acdm_lines.specs.Counted.{SourceView}
use Rattle.acdm_lines.specs.Lines.{IsLine, most_held}
use Rattle.acdm_lines.specs.NextLine.{FailsOrEndless}
use Rattle.acdm_step.specs.declared.entry.Entry.{Entry}
use Rattle.acdm_step.specs.Commands.{History}
use Rattle.acdm_step.specs.History.{IsLegal}
use Rattle.acdm_journal.specs.declared.judge.Clause.{Clause}
use Rattle.acdm_journal.specs.declared.journal_reader.JournalEnd.{JournalEnd}
use Rattle.acdm_journal.specs.declared.journal_reader.JournalEnd.TheVariants as ends
use Rattle.acdm_journal.specs.declared.journal_reader.TheConstants.{MOST_KEPT}
use Rattle.acdm_journal.specs.Text.{history_text}
use Rattle.acdm_journal.specs.Audit.{Breaks}
use Rattle.acdm_journal.specs.Whole.{AreReadable}

-- A reader gave the text of entries with which a legal history stays legal, and this rest behind them.
pub record GaveBehind (sigs : List (ℕ × Promise)) (J : History) (log log_after : List ℕ) : Type 0 where
  pub newer : List Entry
  pub rest : List ℕ
  pub legal : IsLegal sigs (newer ++ J)
  pub readable : AreReadable sigs newer
  pub gave : log_after ≡ log ++ (history_text newer ++ rest)

-- A use has this history, of so many entries. Behind it stands a line that breaks this clause first. No more was read
-- behind it than is kept of a line and one read gives, where that is looked for.
pub record AtFault {R : Type 0} (sigs : List (ℕ × Promise)) (bounded : Bool) (has : History → Type 0)
    (old new : SourceView R) (J : History) (rest : List ℕ) (entry : ℕ) (clause : Clause) : Type 0 where
  pub count : length J ≡ entry
  pub taken : has J
  pub line : List ℕ
  pub later : List ℕ
  pub is_line : IsLine line
  pub split : rest ≡ line ++ 10 ∷ later
  pub breaks : Breaks sigs J line clause
  pub soon : bounded ≡ true → length rest ≤ MOST_KEPT + most_held
  pub well : new.faults ≡ old.faults

-- A use has this history, of so many entries. Behind it stands a part of a line, which is the rest of the text, or as
-- much of a line that is too long as is kept of one.
pub record AtRest {R : Type 0} (bounded : Bool) (has : History → Type 0) (old new : SourceView R) (J : History)
    (rest : List ℕ) (count : ℕ) : Type 0 where
  pub count_is : length J ≡ count
  pub taken : has J
  pub is_line : IsLine rest
  pub some : 0 < length rest
  pub why : (new.ended ≡ true) ⊎ (MOST_KEPT ≤ length rest)
  pub all : bounded ≡ false → new.ended ≡ true
  pub soon : bounded ≡ true → length rest ≤ MOST_KEPT + most_held
  pub well : new.faults ≡ old.faults

-- How the reading ends where a use has this history, whose newer entries have this text, and this rest stands behind
-- it.
abbrev pub EndsBehind : {R S : Type 0} → List (ℕ × Promise) → Bool → (History → Type 0) → (History → S → Type 0)
    → SourceView R → SourceView R → History → List ℕ → List ℕ → JournalEnd S → Type 0
EndsBehind sigs bounded has stops old new J text rest (ends.Whole n) =
    (rest ≡ []) × (new.ended ≡ true) × (length J ≡ n) × has J × (new.faults ≡ old.faults)
EndsBehind sigs bounded has stops old new J text rest (ends.Rest n) = AtRest bounded has old new J rest n
EndsBehind sigs bounded has stops old new J text rest (ends.Faulty entry clause) =
    AtFault sigs bounded has old new J rest entry clause
EndsBehind sigs bounded has stops old new J text rest ends.Read =
    IsLine rest × has J × FailsOrEndless old.faults new.faults (text ++ rest)
    × (bounded ≡ true → length rest ≤ MOST_KEPT + most_held)
EndsBehind sigs bounded has stops old new J text rest ends.Memory = has J × (new.faults ≡ old.faults)
EndsBehind sigs bounded has stops old new J text rest (ends.Stopped s) =
    stops J s × (0 < length rest) × (new.faults ≡ old.faults)

-- How the reading of what stands behind a legal history ends for a use of it: what the reader gave, and which entries
-- the use has then. All numbers of entries are those in the whole journal.
abbrev pub ReadsBehind : {R S : Type 0} → List (ℕ × Promise) → Bool → History → (History → Type 0)
    → (History → S → Type 0) → SourceView R → SourceView R → JournalEnd S → Type 0
ReadsBehind sigs bounded J has stops old new end =
    (g : GaveBehind sigs J old.log new.log)
    × EndsBehind sigs bounded has stops old new (g.newer ++ J) (history_text g.newer) g.rest end
