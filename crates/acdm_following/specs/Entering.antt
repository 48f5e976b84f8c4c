-- What is entered of what was read of a connection.
use Rattle.std.specs.Prelude.{ℕ, ◌^◌, ◌<◌, ◌≤◌, ◌≡◌, ◌≢◌, ◌⊎◌, Bool, true, false, List, [], ◌++◌}
use Rattle.std.specs.Prelude.{length, take, Result, Ok, Err, OnOk}
use Rattle.hex.specs.Hex.{encode_lower}
use Rattle.sha2.specs.Sha256.{sha256}
use Rattle.bpf_helpers.specs.Promise.{Promise}
use Rattle.acdm_board.specs.Desk.{DeskView}
use Rattle.acdm_failures.specs.declared.failure.Failure.TheVariants.{Memory, Room}
use Rattle.acdm_journal.specs.declared.judge.Clause.{Clause}
use Rattle.acdm_journal.specs.declared.judge.Clause.TheVariants.{Unreadable}
use Rattle.acdm_journal.specs.declared.journal_reader.TheConstants.{MOST_KEPT}
use Rattle.acdm_journal.specs.Audit.{Breaks}
use Rattle.acdm_journal.specs.Text.{history_text}
use Rattle.acdm_journal.specs.Whole.{AreReadable}
use Rattle.acdm_lines.specs.Lines.{IsLine}
use Rattle.acdm_restoring.specs.declared.restoring.RestoreError.{RestoreError}
use Rattle.acdm_restoring.specs.declared.restoring.RestoreError.TheVariants as errors
use Rattle.acdm_restoring.specs.Restored.{with_entries}
use Rattle.acdm_step.specs.declared.entry.Entry.{Entry}
use Rattle.acdm_step.specs.Commands.{History}
use Rattle.acdm_step.specs.History.{IsLegal}
use Rattle.acdm_following.specs.declared.first_board.Parting.{Parting}
use Rattle.acdm_following.specs.declared.first_board.Parting.TheVariants as partings
use Rattle.acdm_following.specs.Heads.{FirstLine, IsNamed}

-- the name of a journal whose first entry has this line
abbrev pub name_by : List ℕ → List ℕ
name_by line = encode_lower (take 16 (sha256 line))

-- Behind a history, a rest is faulty, whatever comes behind it: its first line breaks this clause first, or it is a
-- part of a line that is too long.
pub data IsFaulty (sigs : List (ℕ × Promise)) (J : History) (rest : List ℕ) (clause : Clause) : Type 0 where
  at_line : (line later : List ℕ) → FirstLine rest line later → Breaks sigs J line clause
      → IsFaulty sigs J rest clause
  too_long : IsLine rest → MOST_KEPT ≤ length rest → clause ≡ Unreadable → IsFaulty sigs J rest clause

-- the first line of a rest is not that of the first entry of the journal of this name
pub record IsOther (name rest : List ℕ) : Type 0 where
  pub line : List ℕ
  pub later : List ℕ
  pub first : FirstLine rest line later
  pub other : name_by line ≢ name

-- There is no room for what comes: for an entry, or for the number of bytes of what was entered.
abbrev pub LacksRoom : DeskView → List ℕ → List ℕ → Type 0
LacksRoom desk text rest =
    ((length desk.history ≡ desk.capacity) × (0 < length rest)) ⊎ (2 ^ 64 ≤ length text)

-- Entries of this text were put behind those of a desk, each once its line was judged behind those before it, and with
-- them its history stays legal.
pub record Enters (before after : DeskView) (text : List ℕ) : Type 0 where
  pub newer : List Entry
  pub legal : IsLegal before.sigs (newer ++ before.history)
  pub readable : AreReadable before.sigs newer
  pub after_is : after ≡ with_entries before newer
  pub text_is : text ≡ history_text newer

-- Why a desk has no more entries, where the text of those that were put there is this, and this rest stands behind it.
abbrev pub Stays : {T : Type 0} → List ℕ → DeskView → List ℕ → List ℕ → Result T Parting → Type 0
Stays name desk text rest (Ok x) = IsLine rest
Stays name desk text rest (Err (partings.Faulty entry clause)) =
    (entry ≡ length desk.history) × IsFaulty desk.sigs desk.history rest clause
Stays name desk text rest (Err partings.OtherJournal) = (desk.history ≡ []) × IsOther name rest
Stays name desk text rest (Err (partings.Failed Room)) = LacksRoom desk text rest
Stays name desk text rest (Err (partings.Failed Memory)) = Unit {0}
Stays name desk text rest (Err why) = ⊥

-- What comes of entering the whole lines of a text, of which this is left: those in front were entered, and the history
-- has the name that it had.
pub record EntersLines {T : Type 0} (name : List ℕ) (before after : DeskView) (text left : List ℕ)
    (result : Result T Parting) : Type 0 where
  pub front : List ℕ
  pub rest : List ℕ
  pub split : text ≡ front ++ rest
  pub enters : Enters before after front
  pub named : IsNamed name before.history → IsNamed name after.history
  pub stays : Stays name after front rest result
  pub left_is : OnOk result (left ≡ rest)

-- ---- parts

-- so many bytes of a text were entered, or this kept the rest of it from that, of whatever name it is
abbrev pub TakesBytes : DeskView → List ℕ → List ℕ → Result ℕ Parting → Type 0
TakesBytes desk text rest (Ok bytes) = IsLine rest × (bytes ≡ length text)
TakesBytes desk text rest (Err (partings.Faulty entry clause)) =
    (entry ≡ length desk.history) × IsFaulty desk.sigs desk.history rest clause
TakesBytes desk text rest (Err (partings.Failed Room)) = LacksRoom desk text rest
TakesBytes desk text rest (Err (partings.Failed Memory)) = Unit {0}
TakesBytes desk text rest (Err why) = ⊥

-- what comes of entering the whole lines of a text
pub record EntersText (before after : DeskView) (text : List ℕ) (result : Result ℕ Parting) : Type 0 where
  pub front : List ℕ
  pub rest : List ℕ
  pub split : text ≡ front ++ rest
  pub enters : Enters before after front
  pub takes : TakesBytes after front rest result

-- what is answered where entries were restored so
abbrev pub answer_of : Result ℕ RestoreError → Result ℕ Parting
answer_of (Ok bytes) = Ok bytes
answer_of (Err (errors.Faulty entry clause)) = Err (partings.Faulty entry clause)
answer_of (Err errors.Full) = Err (partings.Failed Room)
answer_of (Err errors.Read) = Err (partings.Failed Memory)
answer_of (Err errors.Memory) = Err (partings.Failed Memory)

-- whether a history has this name
abbrev pub TellsName : List ℕ → History → Bool → Type 0
TellsName name J true = IsNamed name J
TellsName name J false = IsNamed name J → ⊥

-- a line may begin a history of this name, if that has no entry yet
abbrev pub MayBegin : List ℕ → List ℕ → History → Bool → Type 0
MayBegin name line J true = J ≡ [] → name_by line ≡ name
MayBegin name line J false = (J ≡ []) × (name_by line ≢ name)
