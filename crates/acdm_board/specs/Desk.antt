-- What callers see of a desk, and what its fields keep.
use Rattle.std.specs.Prelude.{ℕ, ◌≡◌, ◌≢◌, ◌≤◌, ◌↔◌, Bool, false, true, not, List, [], ◌∷◌, ◌++◌}
use Rattle.std.specs.Prelude.{length, reverse, take, Result, Ok, Err, IfOk, OnErr}
use Rattle.acdm_milestones.specs.declared.role.Role.{Role}
use Rattle.bpf_helpers.specs.Promise.{Promise}
use Rattle.acdm_step.specs.declared.command.Command.{Command}
use Rattle.acdm_step.specs.declared.command.Command.TheVariants.{Load}
use Rattle.acdm_step.specs.declared.entry.Entry.{Entry}
use Rattle.acdm_step.specs.declared.outcome.Outcome.{Outcome}
use Rattle.acdm_step.specs.Verdicts.{outcome_of, verdict_of}
use Rattle.acdm_step.specs.History.{Board, IsLegal, is_checked, replay, after}
use Rattle.acdm_row.specs.Views.{PublisherView, PassView, RowView}
use Rattle.acdm_board.specs.declared.desk.Reply.{Reply}
use Rattle.acdm_board.specs.declared.error.DeskError.{DeskError}
use Rattle.acdm_board.specs.declared.error.DeskError.TheVariants.{Full, OtherSignatures}

-- the entries, the newest first, how many there may be, the signatures of the helpers, and the names
-- of the cells in which the entries stand
pub record DeskView : Type 0 where
  pub history : List Entry
  pub capacity : ℕ
  pub sigs : List (ℕ × Promise)
  pub cells : List ℕ

-- the row of a desk
abbrev pub row_of : DeskView → RowView
row_of d = record { cells = d.cells; sigs = d.sigs }

-- the core is the replay of the entries, which are legal
pub record Keeps (core : Board) (entries : List Entry) (capacity : ℕ) : Type 0 where
  pub replays : core ≡ replay core.slots.sigs (reverse entries)
  pub legal : IsLegal core.slots.sigs (reverse entries)
  pub fits : length entries ≤ capacity

-- the core is the replay of the journal in the row, whose programs were checked against the core's
-- signatures
pub record IsBook (core : Board) (journal : PublisherView) : Type 0 where
  pub keeps : Keeps core journal.entries (length journal.row.cells)
  pub sigs_are : journal.row.sigs ≡ core.slots.sigs

-- the desk with one entry more, for a command with these answers of helpers
abbrev pub entered : DeskView → ℕ → Role → ℕ → Command → List ℕ → DeskView
entered d session role moment c answers =
    record d {
      history = after d.history session role moment c (verdict_of d.sigs d.history role c)
          answers;
    }

-- the desk with this entry behind the others
abbrev pub with_entry : DeskView → Entry → DeskView
with_entry d e = record d { history = e ∷ d.history }

-- a load of a program that was checked against other signatures
abbrev pub is_foreign : List (ℕ × Promise) → Command → Bool
is_foreign sigs (Load l) = not (is_checked sigs l.program)
is_foreign sigs _ = false

-- what is replied, without the pass that is given back with it
abbrev pub replied : {P : Type 0} → Result (Reply × P) (DeskError × P) → Result Reply DeskError
replied (Ok r) = Ok r.0
replied (Err e) = Err e.0

-- What a pass had seen was the beginning of the journal. Now it has seen all of it, and its own
-- entries are one more, the newest.
pub record Extends (before after : DeskView) (old new : PassView) : Type 0 where
  pub begins : old.seen ≡ take (length old.seen) (reverse before.history)
  pub seen : new.seen ≡ reverse after.history
  pub numbers : new.numbers ≡ old.numbers ++ length before.history ∷ []
  pub own : new.own ≡ old.own ++ take 1 after.history

-- An entry was made for a command, with the answers that helpers gave, and this came of it.
pub record Enters (old : DeskView) (session : ℕ) (role : Role) (moment : ℕ) (c : Command)
    (new : DeskView) (outcome : Outcome) : Type 0 where
  pub answers : List ℕ
  pub entry : new ≡ entered old session role moment c answers
  pub outcome_is : outcome ≡ outcome_of old.sigs old.history role c

-- What comes of a call of the desk for a session in a role, at a moment. An entry was made for the
-- command, and the reply has its number, which is how many there were before it, and what came of the
-- command; or there is none, and the desk is as it was. The call was refused as `Full` exactly where
-- the journal was full, and as `OtherSignatures` exactly where it was not, and the command loads a
-- program that was checked against other signatures.
pub record CallsDesk (old : DeskView) (session : ℕ) (role : Role) (moment : ℕ) (c : Command)
    (new : DeskView) (result : Result Reply DeskError) : Type 0 where
  pub entry : IfOk result (λ reply. Enters old session role moment c new reply.outcome)
  pub number : IfOk result (λ reply. reply.number ≡ length old.history)
  pub full : (result ≡ Err Full) ↔ (length old.history ≡ old.capacity)
  pub other : (result ≡ Err OtherSignatures)
      ↔ ((length old.history ≢ old.capacity) × (is_foreign old.sigs c ≡ true))
  pub err : OnErr result (new ≡ old)
