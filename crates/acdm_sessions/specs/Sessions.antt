-- What sessions are served, and what is told of them once they have ended.
use Rattle.std.specs.Prelude.{ℕ, ◌+◌, ◌≡◌, Bool, false, List, [], ◌∷◌, ◌++◌, length, map, reverse}
use Rattle.std.specs.Prelude.{sum_by, take, Option, None, Result, Ok, Err}
use Rattle.std.specs.List.{All}
use Rattle.acdm_milestones.specs.declared.role.Role.{Role}
use Rattle.bpf_helpers.specs.Promise.{Promise}
use Rattle.acdm_step.specs.Commands.{History}
use Rattle.acdm_step.specs.History.{IsLegal, after}
use Rattle.acdm_step.specs.Verdicts.{outcome_of, verdict_of}
use Rattle.acdm_row.specs.Views.{PassView, RowView, IsSameCaller}
use Rattle.acdm_board.specs.Desk.{DeskView, row_of}
use Rattle.acdm_board.specs.declared.desk.Reply.{Reply}
use Rattle.acdm_jobs.specs.Each.{Each}
use Rattle.acdm_lines.specs.Counted.{SinkView, SourceView}
use Rattle.acdm_lines.specs.declared.run_error.RunError.{RunError}
use Rattle.acdm_lines.specs.declared.run_error.RunError.TheVariants as errors
use Rattle.acdm_wire.specs.declared.fault.Bad.{Bad}
use Rattle.acdm_wire.specs.declared.fault.Bad.TheVariants.{NoMemory, FullJournal}
use Rattle.acdm_sessions.specs.declared.answer.Answer.{Answer}
use Rattle.acdm_sessions.specs.declared.answer.Answer.TheVariants.{Entered, Rejected}
use Rattle.acdm_sessions.specs.declared.order.Order.{Order}
use Rattle.acdm_sessions.specs.declared.session.End.{End}
use Rattle.acdm_sessions.specs.declared.session.End.TheVariants as ends
use Rattle.acdm_sessions.specs.declared.session.End.TheVariants.{Start}
use Rattle.acdm_sessions.specs.Orders.{Orders}
use Rattle.acdm_sessions.specs.Passes.{BeginsWith, IsShown, made_since}
use Rattle.acdm_sessions.specs.Stream.{AnswersAll, AnswersPart, AnswersWhole, serving_by}

-- ---- one line

-- A call of a pass made an entry for an order. The journal before it, the newest entry first, began
-- with what the pass had seen. The pass has seen all of the journal then, and the entry, of its
-- session and role, is the last of its own. The reply has the entry's number and what came of it.
pub record Calls (sigs : List (ℕ × Promise)) (o : Order) (old new : PassView) (reply : Reply)
    : Type 0 where
  pub before : History
  pub answers : List ℕ
  pub begins : old.seen ≡ take (length old.seen) (reverse before)
  pub caller : IsSameCaller old new
  pub seen : new.seen ≡ reverse (after before old.session old.role o.moment o.command
      (verdict_of sigs before old.role o.command) answers)
  pub numbers : new.numbers ≡ old.numbers ++ length before ∷ []
  pub own : new.own ≡ old.own ++ take 1 (after before old.session old.role o.moment o.command
      (verdict_of sigs before old.role o.command) answers)
  pub number : reply.number ≡ length before
  pub outcome : reply.outcome ≡ outcome_of sigs before old.role o.command

-- There was a legal journal, the newest entry first, that began with what a pass has seen and had an
-- entry in each cell of its row.
pub record IsFull (pass : PassView) : Type 0 where
  pub before : History
  pub legal : IsLegal pass.row.sigs before
  pub begins : pass.seen ≡ take (length pass.seen) (reverse before)
  pub full : length before ≡ length pass.row.cells

-- why a call of a pass makes no entry: memory was refused, or the journal is full
abbrev pub RejectsCall : PassView → Bad → Type 0
RejectsCall pass NoMemory = Unit {0}
RejectsCall pass FullJournal = IsFull pass
RejectsCall pass _ = ⊥

-- What is answered to a call of the desk, and the session's pass before it and after it: it makes
-- an entry, unless memory was refused or the journal is full.
abbrev pub CallAnswers : List (ℕ × Promise) → Order → PassView → PassView → Answer → Type 0
CallAnswers sigs o old new (Entered reply) = Calls sigs o old new reply
CallAnswers sigs o old new (Rejected b) = (new ≡ old) × RejectsCall old b

-- the same of an order, or of a line that gives none
abbrev pub OrderAnswers : List (ℕ × Promise) → Result Order Bad → PassView → PassView → Answer
    → Type 0
OrderAnswers sigs (Err b) old new answer = (new ≡ old) × (answer ≡ Rejected b)
OrderAnswers sigs (Ok o) old new answer = CallAnswers sigs o old new answer

-- a session whose clock may give these minutes answered a line so
pub record SessionAnswers (gives : ℕ → Bool) (sigs : List (ℕ × Promise)) (old new : PassView)
    (line : List ℕ) (answer : Answer) : Type 0 where
  pub order : Result Order Bad
  pub orders : Orders gives sigs line order
  pub answers : OrderAnswers sigs order old new answer

-- it is the same session after it
pub record StaysItself (gives later_gives : ℕ → Bool) (number later_number : ℕ)
    (role later_role : Role) : Type 0 where
  pub same_number : later_number ≡ number
  pub same_role : later_role ≡ role
  pub same_clock : later_gives ≡ gives

-- ---- all sessions

-- what is told of a session that has ended: its number, its role, its calls that made an entry, and
-- how it ended
pub record SessionEnd : Type 0 where
  pub number : ℕ
  pub role : Role
  pub calls : ℕ
  pub end : End

abbrev pub session_end : ℕ → Role → ℕ → End → SessionEnd
session_end number role calls end =
    record { number = number; role = role; calls = calls; end = end }

-- those of a list with their numbers, one after the other from this one on
abbrev pub numbered : {X : Type 0} → ℕ → List X → List (ℕ × X)
numbered n [] = []
numbered n (x ∷ xs) = (n, x) ∷ numbered (n + 1) xs

-- Sessions of these roles have ended, numbered from here on. One that was not started made no
-- entry.
abbrev pub HaveEnded : ℕ → List Role → List SessionEnd → Type 0
HaveEnded n [] [] = Unit {0}
HaveEnded n (r ∷ rs) (t ∷ ts) =
    (t.number ≡ n) × (t.role ≡ r) × (t.end ≡ Start → t.calls ≡ 0) × HaveEnded (n + 1) rs ts
HaveEnded n [] (t ∷ ts) = ⊥
HaveEnded n (r ∷ rs) [] = ⊥

-- a session that was opened with this number and role is told of so
pub record EndsAs (number : ℕ) (role : Role) (t : SessionEnd) : Type 0 where
  pub same_number : t.number ≡ number
  pub same_role : t.role ≡ role
  pub not_started : t.end ≡ Start → t.calls ≡ 0

-- ---- what was read and written

-- What a session is opened with: its role, all bytes that its reader gave so far and how often it
-- failed, all that its writer took, the entries that it was told of, and how often it failed, and the
-- minutes that its clock may give. With them stands what was known of both at first.
pub record SessionStart : Type 0 where
  pub role : Role
  pub read : List ℕ
  pub faults : ℕ
  pub written : List ℕ
  pub told : List ℕ
  pub write_faults : ℕ
  pub known : Option (List ℕ) × Option (List ℕ)
  pub gives : ℕ → Bool

abbrev pub session_start : {R W : Type 0} → Role → SourceView R → SinkView W → (ℕ → Bool)
    → SessionStart
session_start role reader writer gives =
    record {
      role = role;
      read = reader.log;
      faults = reader.faults;
      written = writer.log;
      told = writer.told;
      write_faults = writer.faults;
      known = (reader.first, writer.first);
      gives = gives;
    }

-- one that begins on a new connection, of whose bytes nothing is known beforehand
abbrev pub new_session : Role → (ℕ → Bool) → SessionStart
new_session role gives =
    record {
      role = role;
      read = [];
      faults = 0;
      written = [];
      told = [];
      write_faults = 0;
      known = (None, None);
      gives = gives;
    }

-- what it leaves: how it ended, the same of its reader and writer, whether its reader has told the
-- end and whether bytes that its writer took wait for a flush, and its pass
pub record SessionLeft : Type 0 where
  pub end : End
  pub read : List ℕ
  pub ended : Bool
  pub faults : ℕ
  pub written : List ℕ
  pub told : List ℕ
  pub waits : Bool
  pub write_faults : ℕ
  pub known : Option (List ℕ) × Option (List ℕ)
  pub pass : PassView

abbrev pub session_left : {R W : Type 0} → End → SourceView R → SinkView W → PassView → SessionLeft
session_left end reader writer pass =
    record {
      end = end;
      read = reader.log;
      ended = reader.ended;
      faults = reader.faults;
      written = writer.log;
      told = writer.told;
      waits = writer.waits;
      write_faults = writer.faults;
      known = (reader.first, writer.first);
      pass = pass;
    }

-- a pass that has seen nothing
abbrev pub new_pass : RowView → ℕ → Role → PassView
new_pass row session role =
    record {
      row = row;
      session = session;
      role = role;
      seen = [];
      numbers = [];
      own = [];
    }

-- how a session ends whose lines were answered so
abbrev pub end_for : {T : Type 0} → Result T RunError → End
end_for (Ok x) = ends.End
end_for (Err errors.Read) = ends.Read
end_for (Err errors.Write) = ends.Write
end_for (Err errors.Memory) = ends.Memory

-- Lines were answered, from a pass that had seen nothing to the one that the session leaves: all of
-- the input, or the whole lines before its reader failed or without end, and then no byte of a
-- reply waits for a flush; or those before its writer failed once more. One that had no memory for its
-- buffers, or was not started, did nothing. None ends as `Torn` by itself.
abbrev pub ServesAs : RowView → ℕ → SessionStart → SessionLeft → End → Type 0
ServesAs row number s t ends.End =
    AnswersAll (serving_by (SessionAnswers s.gives row.sigs)) s.read t.read t.ended
    (new_pass row number s.role) t.pass s.written t.written × (t.waits ≡ false)
ServesAs row number s t ends.Read =
    AnswersWhole (serving_by (SessionAnswers s.gives row.sigs)) s.read t.read s.faults t.faults
    (new_pass row number s.role) t.pass s.written t.written × (t.waits ≡ false)
ServesAs row number s t ends.Write =
    AnswersPart (serving_by (SessionAnswers s.gives row.sigs)) s.read t.read
    (new_pass row number s.role) t.pass s.written t.written
    × (t.write_faults ≡ s.write_faults + 1)
ServesAs row number s t ends.Torn = ⊥
ServesAs row number s t _ =
    (t.read ≡ s.read) × (t.written ≡ s.written) × (t.pass ≡ new_pass row number s.role)

-- A session served so. What was known of its reader and writer at first stays as it was. Its writer was told of the
-- entries that its calls made, of each before it took the reply, and of no others.
pub record HasServed (row : RowView) (number : ℕ) (s : SessionStart) (t : SessionLeft) : Type 0 where
  pub served : ServesAs row number s t t.end
  pub known : t.known ≡ s.known
  pub told : t.told ≡ s.told ++ t.pass.numbers

-- the same of all sessions, numbered from 1
abbrev pub HaveServed : RowView → List SessionStart → List SessionLeft → Type 0
HaveServed row ss ts = Each (λ p t. HasServed row p.0 p.1 t) (numbered 1 ss) ts

-- ---- all that comes of them

-- what is told of a session that has ended, whether its pass has seen more than there is, and what it
-- leaves
pub record SessionTold : Type 0 where
  pub end : SessionEnd
  pub torn : Bool
  pub left : SessionLeft

abbrev pub session_told : {R W : Type 0} → ℕ → Role → ℕ → End → Bool → SourceView R → SinkView W
    → PassView → SessionTold
session_told number role calls end torn reader writer pass =
    record {
      end = session_end number role calls end;
      torn = torn;
      left = session_left end reader writer pass;
    }

-- Sessions that began so were served by a desk, from its opening until it was closed, and this is told
-- of them.
--
-- `sum`, `sessions`: the closed journal has an entry more for each call that made one, and there is a
-- session for each start, in order, with its role. `served`: what each session read was answered line by
-- line, from a pass that had seen nothing to the pass that it leaves. A line that made an entry made the
-- next of the pass's own, for what the line asks at a minute that the clock may give, and the reply tells
-- of that entry. `begins`, `shown`: the closed journal begins with the opening one and, but for a torn
-- session, with what the pass of each has seen, and its own entries are a part of what it made. `own`:
-- where no session is torn, they are all of it.
pub record ServesSessions (opening closed : DeskView) (starts : List SessionStart)
    (told : List SessionTold) : Type 0 where
  pub sum : length closed.history ≡ length opening.history + sum_by (λ t. t.end.calls) told
  pub sessions : HaveEnded 1 (map (λ s. s.role) starts) (map (λ t. t.end) told)
  pub served : HaveServed (row_of opening) starts (map (λ t. t.left) told)
  pub begins : BeginsWith opening.history closed.history
  pub shown : All (λ t. IsShown (length opening.history) closed t.end.number t.end.role t.end.calls
      t.torn t.left.pass) told
  pub own : All (λ t. t.torn ≡ false) told → All (λ t. t.left.pass.own
      ≡ made_since (length opening.history) closed.history t.end.number) told
