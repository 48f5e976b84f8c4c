-- What comes of one connection.
use Rattle.std.specs.Prelude.{ℕ, ◌-◌, ◌^◌, ◌<◌, ◌≤◌, ◌≡◌, ◌⊎◌, true, Bool, List, [], ◌++◌, length}
use Rattle.std.specs.Prelude.{Option, Some, None, Result, Ok, Err}
use Rattle.acdm_board.specs.Desk.{DeskView}
use Rattle.acdm_failures.specs.declared.failure.Failure.TheVariants.{Memory, Room, Save}
use Rattle.acdm_lines.specs.Counted.{SourceView}
use Rattle.acdm_lines.specs.Lines.{IsLine}
use Rattle.acdm_step.specs.Commands.{History}
use Rattle.acdm_following.specs.declared.head.JournalHead.{JournalHead}
use Rattle.acdm_following.specs.declared.head.TheConstants.{MOST_HEAD}
use Rattle.acdm_following.specs.declared.first_board.Parting.{Parting}
use Rattle.acdm_following.specs.declared.first_board.Parting.TheVariants as partings
use Rattle.acdm_following.specs.Entering.{Enters, IsFaulty, IsOther, LacksRoom}
use Rattle.acdm_following.specs.Heads.{HeadView, IsNamed, IsNoJournal, Says, head_view}

-- a connection failed behind a part of a line, or gave as many reads as there may be, each of some bytes
abbrev pub IsCut : ℕ → List ℕ → List ℕ → Type 0
IsCut faults text rest = (IsLine rest × (0 < faults)) ⊎ (2 ^ 64 - 1 ≤ length (text ++ rest))

-- ---- nothing was entered

-- a connection says in its first line that this entry comes next, and it is that of this journal, if that has a name
pub record SaysNext (J : History) (gave : List ℕ) (next : ℕ) : Type 0 where
  pub head : HeadView
  pub later : List ℕ
  pub says : Says gave head later
  pub named : IsNamed head.name J
  pub next_is : head.next ≡ next

-- a connection has another name in its first line
pub record SaysOther (J : History) (gave : List ℕ) : Type 0 where
  pub head : HeadView
  pub later : List ℕ
  pub says : Says gave head later
  pub other : IsNamed head.name J → ⊥

-- Why nothing was entered of what a connection gave, for a desk with these entries.
abbrev pub IsUnfit : History → ℕ → List ℕ → Bool → Parting → Type 0
IsUnfit J faults gave ended partings.Ended = IsLine gave × (ended ≡ true)
IsUnfit J faults gave ended partings.Read = IsLine gave × (0 < faults)
IsUnfit J faults gave ended partings.NotAJournal = IsNoJournal gave
IsUnfit J faults gave ended partings.OtherJournal = SaysOther J gave
IsUnfit J faults gave ended (partings.Behind has) = SaysNext J gave has × (has < length J)
IsUnfit J faults gave ended (partings.Ahead next) = SaysNext J gave next × (length J < next)
IsUnfit J faults gave ended (partings.Faulty entry clause) = ⊥
IsUnfit J faults gave ended (partings.Failed Memory) = Unit {0}
IsUnfit J faults gave ended (partings.Failed failure) = ⊥

-- ---- entries came

-- Why no more was entered of what a connection of a journal of this name gave, for a desk that has what it has then,
-- where the text of the entries is this, and this rest stands behind it.
abbrev pub IsLeft : List ℕ → DeskView → ℕ → List ℕ → Bool → List ℕ → Parting → Type 0
IsLeft name desk faults text ended rest partings.Ended = IsLine rest × (ended ≡ true)
IsLeft name desk faults text ended rest partings.Read = IsCut faults text rest
IsLeft name desk faults text ended rest partings.NotAJournal = ⊥
IsLeft name desk faults text ended rest partings.OtherJournal = (desk.history ≡ []) × IsOther name rest
IsLeft name desk faults text ended rest (partings.Behind has) = ⊥
IsLeft name desk faults text ended rest (partings.Ahead next) = ⊥
IsLeft name desk faults text ended rest (partings.Faulty entry clause) =
    (entry ≡ length desk.history) × IsFaulty desk.sigs desk.history rest clause
IsLeft name desk faults text ended rest (partings.Failed Room) = LacksRoom desk text rest
IsLeft name desk faults text ended rest (partings.Failed Save) = Unit {0}
IsLeft name desk faults text ended rest (partings.Failed Memory) = Unit {0}
IsLeft name desk faults text ended rest (partings.Failed failure) = ⊥

-- A connection says in its first line that the entry comes next that does, and whose journal it is. Behind that line it
-- gave the text of entries that were entered, whole lines from the first one on, and a rest of which none was.
pub record Brings (before after : DeskView) (faults : ℕ) (gave : List ℕ) (ended : Bool) (why : Parting) : Type 0 where
  pub head : HeadView
  pub text : List ℕ
  pub rest : List ℕ
  pub says : Says gave head (text ++ rest)
  pub next_is : head.next ≡ length before.history
  pub enters : Enters before after text
  pub named : IsNamed head.name after.history
  pub left : IsLeft head.name after faults text ended rest why

-- What comes of one connection: nothing was entered of it, or entries were.
abbrev pub Comes : DeskView → DeskView → ℕ → List ℕ → Bool → Parting → Type 0
Comes before after faults gave ended why =
    ((after ≡ before) × IsUnfit before.history faults gave ended why)
    ⊎ Brings before after faults gave ended why

-- ---- parts

-- What comes of reading the first line of a connection, behind which this was read.
abbrev pub HearsHead : ℕ → List ℕ → Bool → List ℕ → Result JournalHead Parting → Type 0
HearsHead faults gave ended later (Ok head) = Says gave (head_view head) later
HearsHead faults gave ended later (Err partings.Ended) = IsLine gave × (ended ≡ true)
HearsHead faults gave ended later (Err partings.Read) = IsLine gave × (0 < faults)
HearsHead faults gave ended later (Err partings.NotAJournal) = IsNoJournal gave
HearsHead faults gave ended later (Err (partings.Failed Memory)) = Unit {0}
HearsHead faults gave ended later (Err why) = ⊥

-- what comes of comparing a first line with the entries that a desk has
abbrev pub Fits : {T : Type 0} → History → HeadView → Result T Parting → Type 0
Fits J head (Ok x) = IsNamed head.name J × (head.next ≡ length J)
Fits J head (Err partings.OtherJournal) = IsNamed head.name J → ⊥
Fits J head (Err (partings.Behind has)) = IsNamed head.name J × (head.next ≡ has) × (has < length J)
Fits J head (Err (partings.Ahead next)) = IsNamed head.name J × (head.next ≡ next) × (length J < next)
Fits J head (Err (partings.Failed Memory)) = Unit {0}
Fits J head (Err why) = ⊥

-- what is left of what was read, once a first line was looked for
abbrev pub TakesHead : List ℕ → List ℕ → Result (Option JournalHead) Parting → Type 0
TakesHead text left (Ok (Some head)) = Says text (head_view head) left
TakesHead text left (Ok None) = IsLine text × (length text ≤ MOST_HEAD) × (left ≡ text)
TakesHead text left (Err partings.NotAJournal) = IsNoJournal text
TakesHead text left (Err (partings.Failed Memory)) = Unit {0}
TakesHead text left (Err why) = ⊥

-- What comes of following a connection behind its first line, of which this was read already.
pub record BringsText {R : Type 0} (name : List ℕ) (before after : DeskView) (old new : SourceView R) (pending : List ℕ)
    (why : Parting) : Type 0 where
  pub more : List ℕ
  pub text : List ℕ
  pub rest : List ℕ
  pub gave : new.log ≡ old.log ++ more
  pub split : pending ++ more ≡ text ++ rest
  pub enters : Enters before after text
  pub named : IsNamed name before.history → IsNamed name after.history
  pub left : IsLeft name after new.faults text new.ended rest why
