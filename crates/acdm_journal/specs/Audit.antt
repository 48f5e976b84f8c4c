-- What an audit says of the lines of a journal (this project's profile).
use Rattle.std.specs.Prelude.{ℕ, ◌≡◌, ◌≢◌, ◌≤◌, List, ◌∷◌, length}
use Rattle.std.specs.Prelude.{Result, Ok, Err}
use Rattle.bpf_decode.specs.declared.op.Op.{Op}
use Rattle.bpf_decode.specs.Encoding.{Encodes}
use Rattle.bpf_helpers.specs.Promise.{Promise}
use Rattle.bpf_regstate.specs.declared.length.Length.{Length}
use Rattle.bpf_regstate.specs.Lengths.{bytes_in}
use Rattle.bpf_regstate.specs.States.{Accepts}
use Rattle.bpf_verifier.specs.Verdict.{Verified}
use Rattle.acdm_milestones.specs.declared.role.Role.{Role}
use Rattle.acdm_step.specs.declared.command.Command.{Command}
use Rattle.acdm_step.specs.declared.command.Command.TheVariants as commands
use Rattle.acdm_step.specs.declared.entry.Entry.{Entry}
use Rattle.acdm_step.specs.Commands.{History}
use Rattle.acdm_step.specs.Verdicts.{verdict_of, verdict_in}
use Rattle.acdm_step.specs.Prepared.{after_change}
use Rattle.acdm_step.specs.declared.prepare.Plan.{Plan}
use Rattle.acdm_step.specs.History.{Board, IsLegal, replay, after}
use Rattle.acdm_step.specs.Planning.{UsesAnswers}
use Rattle.acdm_journal.specs.declared.stated.Stated.{Stated}
use Rattle.acdm_step.specs.declared.stated.StatedCommand.{StatedCommand}
use Rattle.acdm_step.specs.declared.stated.StatedCommand.TheVariants.{Plain, Load}
use Rattle.acdm_journal.specs.declared.judge.PlannedEntry.{PlannedEntry}
use Rattle.acdm_journal.specs.declared.judge.Clause.{Clause}
use Rattle.acdm_journal.specs.declared.judge.Clause.TheVariants as clauses
use Rattle.acdm_journal.specs.declared.judge.AuditError.{AuditError}
use Rattle.acdm_journal.specs.declared.judge.AuditError.TheVariants.{Memory, Faulty}
use Rattle.acdm_journal.specs.Text.{line_of, stated_in, asked_in, outcome_code}
use Rattle.acdm_journal.specs.Ranges.{IsStated}
use Rattle.acdm_journal.specs.declared.reading.TheConstants.{LONGEST_ENTRY}

-- the numbers of the clauses, in the order of their tests
abbrev pub clause_code : Clause → ℕ
clause_code clauses.Unreadable = 401
clause_code clauses.Number = 402
clause_code clauses.Program = 403
clause_code clauses.Answers = 404
clause_code clauses.Outcome = 405

-- the command that is asked for; the program of a load is the one that its bytes encode, and no
-- slot of it has a fault beside a record of the length that the load names
abbrev pub IsCommandOf : List (ℕ × Promise) → StatedCommand → Command → Type 0
IsCommandOf sigs (Plain c) command = command ≡ c
IsCommandOf sigs (Load l) command =
    (ops : List Op) × Encodes l.program ops × Accepts (bytes_in l.record_length) ops sigs
    × (command ≡ commands.Load record {
      milestone = l.milestone;
      kind = l.kind;
      program = record { record_length = l.record_length; ops = ops; sigs = sigs };
    })

-- a line states this, and is not too long
pub record States (line : List ℕ) (s : Stated) : Type 0 where
  pub line_is : line ≡ line_of s
  pub is : IsStated s
  pub short : length line ≤ LONGEST_ENTRY

-- what a line states, numbered as the next entry
pub record StatesNext (J : History) (line : List ℕ) (s : Stated) : Type 0 where
  pub states : States line s
  pub number : s.number ≡ length J

-- The clause that a line breaks first, after a legal history. Whether its answers are right is
-- judged by the outcome that the history gives.
abbrev pub Breaks : List (ℕ × Promise) → History → List ℕ → Clause → Type 0
Breaks sigs J line clauses.Unreadable = length line ≤ LONGEST_ENTRY → (s : Stated) → IsStated s
    → line ≢ line_of s
Breaks sigs J line clauses.Number = (s : Stated) × States line s × (s.number ≢ length J)
Breaks sigs J line clauses.Program =
    (s : Stated) × StatesNext J line s × ((c : Command) → IsCommandOf sigs s.asked c → ⊥)
Breaks sigs J line clauses.Answers =
    (s : Stated) × (c : Command) × StatesNext J line s × IsCommandOf sigs s.asked c
    × (UsesAnswers sigs J s.role s.moment c s.answers → ⊥)
Breaks sigs J line clauses.Outcome =
    (s : Stated) × (c : Command) × StatesNext J line s × IsCommandOf sigs s.asked c
    × UsesAnswers sigs J s.role s.moment c s.answers
    × (s.outcome ≢ outcome_code (verdict_of sigs J s.role c))

-- The line is that of an entry with which the history stays legal, and the board is its replay.
pub record Continues (sigs : List (ℕ × Promise)) (J : History) (line : List ℕ)
    (board : Board) : Type 0 where
  pub entry : Entry
  pub line_is : line ≡ line_of (stated_in entry)
  pub is : IsStated (stated_in entry)
  pub short : length line ≤ LONGEST_ENTRY
  pub legal : IsLegal sigs (entry ∷ J)
  pub command : IsCommandOf sigs (asked_in entry.command) entry.command
  pub replays : board ≡ replay sigs (entry ∷ J)

-- what comes of judging a line after a legal history, and the board then
abbrev pub Judges : {T : Type 0} → List (ℕ × Promise) → History → List ℕ → Board
    → Result T AuditError → Type 0
Judges sigs J line board (Ok x) = Continues sigs J line board
Judges sigs J line board (Err Memory) = Unit {0}
Judges sigs J line board (Err (Faulty clause)) = Breaks sigs J line clause

-- What comes of judging a line after a legal history, by the board of that history: the entry that
-- it tells of, and what that does to the board.
abbrev pub PlansLine : List (ℕ × Promise) → History → List ℕ → Board → Result PlannedEntry AuditError
    → Type 0
PlansLine sigs J line board (Ok n) =
    (k : Continues sigs J line (after_change board n.plan.change)) × (k.entry ≡ n.entry)
PlansLine sigs J line board (Err e) = Judges {T = Unit {0}} sigs J line board (Err e)

-- ---- parts

-- what comes of reading the bytes of a program
abbrev pub GivesProgram : List (ℕ × Promise) → List ℕ → Length → Result Verified AuditError
    → Type 0
GivesProgram sigs bytes record_length (Ok v) =
    Encodes bytes v.ops × Accepts (bytes_in record_length) v.ops sigs × (v.sigs ≡ sigs)
    × (v.record_length ≡ record_length)
GivesProgram sigs bytes record_length (Err Memory) = Unit {0}
GivesProgram sigs bytes record_length (Err (Faulty clause)) =
    (clause ≡ clauses.Program)
    × ((ops : List Op) → Encodes bytes ops → Accepts (bytes_in record_length) ops sigs → ⊥)

-- what comes of reading the program of what is asked for
abbrev pub Commands : List (ℕ × Promise) → StatedCommand → Result Command AuditError → Type 0
Commands sigs asked (Ok c) = IsCommandOf sigs asked c
Commands sigs asked (Err Memory) = Unit {0}
Commands sigs asked (Err (Faulty clause)) =
    (clause ≡ clauses.Program) × ((c : Command) → IsCommandOf sigs asked c → ⊥)

-- a command was entered with these answers and this outcome
pub record Enters (sigs : List (ℕ × Promise)) (J : History) (role : Role) (moment : ℕ) (c : Command)
    (answers : List ℕ)
    (outcome : ℕ) (board : Board) : Type 0 where
  pub uses : UsesAnswers sigs J role moment c answers
  pub outcome_is : outcome ≡ outcome_code (verdict_of sigs J role c)
  pub replays : (session : ℕ) → board
      ≡ replay sigs (after J session role moment c (verdict_of sigs J role c) answers)

-- what comes of judging the answers and the outcome of a command
abbrev pub JudgesCommand : {T : Type 0} → List (ℕ × Promise) → History → Role → ℕ → Command → List ℕ
    → ℕ → Board
    → Result T AuditError → Type 0
JudgesCommand sigs J role moment c answers outcome board (Ok x) =
    Enters sigs J role moment c answers outcome board
JudgesCommand sigs J role moment c answers outcome board (Err Memory) = Unit {0}
JudgesCommand sigs J role moment c answers outcome board (Err (Faulty clauses.Answers)) =
    UsesAnswers sigs J role moment c answers → ⊥
JudgesCommand sigs J role moment c answers outcome board (Err (Faulty clauses.Outcome)) =
    UsesAnswers sigs J role moment c answers × (outcome ≢ outcome_code (verdict_of sigs J role c))
JudgesCommand sigs J role moment c answers outcome board (Err (Faulty clause)) = ⊥

-- what comes of judging the answers and the outcome of a command, and its plan
abbrev pub PlansCommand : List (ℕ × Promise) → History → Role → ℕ → Command → List ℕ → ℕ → Board
    → Result Plan AuditError → Type 0
PlansCommand sigs J role moment c answers outcome board (Ok p) =
    Enters sigs J role moment c answers outcome (after_change board p.change)
    × (verdict_in p.outcome ≡ verdict_of sigs J role c)
PlansCommand sigs J role moment c answers outcome board (Err e) =
    JudgesCommand {T = Unit {0}} sigs J role moment c answers outcome board (Err e)
