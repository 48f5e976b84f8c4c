-- How the words of a line are read, one after the other. That this undoes the writing of a line is
-- the law of `law`.
use Rattle.std.specs.Prelude.{ℕ, zero, suc, ◌+◌, ◌-◌, ◌*◌, ◌^◌, ◌≡◌, Bool, true, false, ◌&&◌, ◌||◌, ◌==◌}
use Rattle.std.specs.Prelude.{nat_le, nat_lt, if◌then◌else◌, List, [], ◌∷◌, ◌++◌, length, codes}
use Rattle.std.specs.Prelude.{slice_index, Option, Some, None, Result, Ok, Err}
use Rattle.std.specs.List.{slice_split}
use Rattle.std.specs.Str.{bytes_eq}
use Rattle.std.specs.Char.{is_ascii_digit}
use Rattle.hex.specs.Hex.{decode_of, encode_lower}
use Rattle.acdm_record.specs.Texts.{text_from}
use Rattle.acdm_milestones.specs.declared.role.Role.{Role}
use Rattle.acdm_milestones.specs.declared.milestone.Milestone.{Milestone}
use Rattle.acdm_milestones.specs.declared.milestone.Milestone.TheVariants.{FlightPlanActivated}
use Rattle.acdm_milestones.specs.declared.milestone.Milestone.TheVariants.{TwoHoursBeforeEobt}
use Rattle.acdm_milestones.specs.declared.milestone.Milestone.TheVariants.{TobtUpdate}
use Rattle.acdm_milestones.specs.Tables.{milestone_numbered}
use Rattle.acdm_milestones.specs.Names.{role_named}
use Rattle.acdm_milestones.specs.declared.deicing.DeicingTime.{DeicingTime}
use Rattle.acdm_milestones.specs.Deicing.{deicing_named}
use Rattle.bpf_regstate.specs.declared.length.Length.{Length}
use Rattle.bpf_regstate.specs.declared.length.Length.TheVariants.{L128, L160}
use Rattle.acdm_slots.specs.declared.kind.Kind as kinds
use Rattle.acdm_slots.specs.Names.{kind_named}
use Rattle.acdm_step.specs.declared.command.FlightPlan.{FlightPlan}
use Rattle.acdm_step.specs.declared.command.Command.TheVariants as commands
use Rattle.acdm_step.specs.declared.command.Command.TheVariants.{Schedule, Report, Deice}
use Rattle.acdm_journal.specs.declared.stated.Stated.{Stated}
use Rattle.acdm_step.specs.declared.stated.StatedCommand.{StatedCommand}
use Rattle.acdm_step.specs.declared.stated.StatedCommand.TheVariants.{Plain, Load}
use Rattle.acdm_journal.specs.declared.stated.ReadError.{ReadError}
use Rattle.acdm_journal.specs.declared.stated.ReadError.TheVariants.{Memory, Unreadable}
use Rattle.acdm_step.specs.declared.command.TheConstants.{MINUTES_OF_DAY}

-- one reading after another, where there is one
infixl 10 ◌>>=◌
abbrev pub ◌>>=◌ : {A B : Type 0} → Option A → (A → Option B) → Option B
None >>= f = None
Some x >>= f = f x

abbrev pub Words : Type 0
Words = List (List ℕ)

-- What a function returned is what reading gives, with these words left, unless memory ran out,
-- which it may only where it needs some.
abbrev pub Gives : {X : Type 0} → Bool → Result X ReadError → Words → Option (X × Words) → Type 0
Gives needs_memory (Ok x) left reading = reading ≡ Some (x, left)
Gives needs_memory (Err Memory) left reading = needs_memory ≡ true
Gives needs_memory (Err Unreadable) left reading = reading ≡ None

-- what a function that needs no memory returned
abbrev pub Reads : {X : Type 0} → Result X ReadError → Words → Option (X × Words) → Type 0
Reads result left reading = Gives false result left reading

-- the same of a value that is seen by view
abbrev pub ReadsView : {X Y : Type 0} → (X → Y) → Result X ReadError → Words → Option (Y × Words)
    → Type 0
ReadsView view (Ok x) left reading = reading ≡ Some (view x, left)
ReadsView view (Err Memory) left reading = ⊥
ReadsView view (Err Unreadable) left reading = reading ≡ None

-- ---- one word

abbrev pub is_space : ℕ → Bool
is_space b = b == 32

abbrev pub words_of : List ℕ → Words
words_of line = slice_split is_space line

abbrev pub word_at : Words → Option (List ℕ × Words)
word_at [] = None
word_at (w ∷ ws) = Some (w, ws)

-- digits, the highest first
abbrev pub digits_from : ℕ → List ℕ → Option ℕ
digits_from n [] = Some n
digits_from n (c ∷ cs) = if is_ascii_digit c then digits_from (n * 10 + (c - 48)) cs else None

abbrev pub within : ℕ → ℕ → ℕ → Option ℕ
within low high n = if nat_le low n && nat_le n high then Some n else None

-- no digit, more than a word has, or a zero before others
abbrev pub is_no_natural : List ℕ → Bool
is_no_natural w =
    length w == 0 || (nat_lt 20 (length w) || (slice_index w 0 == 48 && nat_lt 1 (length w)))

-- a number without leading zeros
unfoldable pub natural_of : List ℕ → Option ℕ
natural_of w = if is_no_natural w then None else digits_from 0 w

-- a number within these bounds
unfoldable pub number_at : ℕ → ℕ → Words → Option (ℕ × Words)
number_at low high ws = do
  w ← word_at ws
  n ← natural_of w.0
  m ← within low high n
  Some (m, w.1)

-- a text of 1 to so many printable bytes
unfoldable pub text_at : ℕ → Words → Option (List ℕ × Words)
text_at most ws = do
  w ← word_at ws
  t ← text_from most w.0
  Some (t, w.1)

unfoldable pub role_at : Words → Option (Role × Words)
role_at ws = do
  w ← word_at ws
  r ← role_named w.0
  Some (r, w.1)

unfoldable pub kind_at : Words → Option (kinds.Kind × Words)
kind_at ws = do
  w ← word_at ws
  k ← kind_named w.0
  Some (k, w.1)

unfoldable pub deicing_at : Words → Option (DeicingTime × Words)
deicing_at ws = do
  w ← word_at ws
  d ← deicing_named w.0
  Some (d, w.1)

unfoldable pub milestone_at : Words → Option (Milestone × Words)
milestone_at ws = do
  n ← number_at 1 16 ws
  m ← milestone_numbered n.0
  Some (m, n.1)

-- bytes whose hexadecimal text this is, in lower case
abbrev pub written_as : List ℕ → List ℕ → Option (List ℕ)
written_as w bytes = if bytes_eq (encode_lower bytes) w then Some bytes else None

abbrev pub bytes_read : {E : Type 0} → List ℕ → Result (List ℕ) E → Option (List ℕ)
bytes_read w (Ok bytes) = written_as w bytes
bytes_read w (Err e) = None

abbrev pub bytes_of : List ℕ → Option (List ℕ)
bytes_of w = bytes_read w (decode_of w)

unfoldable pub bytes_at : Words → Option (List ℕ × Words)
bytes_at ws = do
  w ← word_at ws
  bytes ← bytes_of w.0
  Some (bytes, w.1)

-- ---- commands

abbrev pub most_word : ℕ
most_word = 2 ^ 64 - 1

abbrev pub most_minute : ℕ
most_minute = 2 ^ 32 - 1

unfoldable pub plan_at : Words → Option (FlightPlan × Words)
plan_at ws = do
  c ← text_at 8 ws
  a ← text_at 4 c.1
  r ← text_at 8 a.1
  d ← text_at 4 r.1
  Some (record { callsign = c.0; aircraft = a.0; registration = r.0; destination = d.0 }, d.1)

-- a plan comes with the first milestone alone
abbrev pub plan_for : Milestone → Words → Option (Option FlightPlan × Words)
plan_for FlightPlanActivated ws = plan_at ws >>= λ p. Some (Some p.0, p.1)
plan_for _ ws = Some (None, ws)

-- milestones 2 and 9 alone may come without a time
abbrev pub least_time : Milestone → ℕ
least_time TwoHoursBeforeEobt = 0
least_time TobtUpdate = 0
least_time _ = 1

unfoldable pub schedule_at : Words → Option (StatedCommand × Words)
schedule_at ws = do
  flight ← number_at 1 most_word ws
  plan ← plan_at flight.1
  sobt ← number_at 1 most_minute plan.1
  mttt ← number_at 0 MINUTES_OF_DAY sobt.1
  exit ← number_at 0 255 mttt.1
  exot ← number_at 0 MINUTES_OF_DAY exit.1
  stand ← number_at 0 65535 exot.1
  Some (
    Plain (Schedule record {
      flight = flight.0;
      plan = plan.0;
      sobt = sobt.0;
      mttt = mttt.0;
      exit = exit.0;
      exot = exot.0;
      stand = stand.0;
    }),
    stand.1,
  )

unfoldable pub report_at : Words → Option (StatedCommand × Words)
report_at ws = do
  flight ← number_at 1 most_word ws
  milestone ← milestone_at flight.1
  time ← number_at (least_time milestone.0) most_minute milestone.1
  plan ← plan_for milestone.0 time.1
  Some (
    Plain (Report record {
      flight = flight.0;
      milestone = milestone.0;
      time = time.0;
      plan = plan.0;
    }),
    plan.1,
  )

unfoldable pub deice_at : Words → Option (StatedCommand × Words)
deice_at ws = do
  flight ← number_at 1 most_word ws
  which ← deicing_at flight.1
  time ← number_at 0 most_minute which.1
  Some (
    Plain (Deice record {
      flight = flight.0;
      which = which.0;
      time = time.0;
    }),
    time.1,
  )

-- the length of records beside which a program was checked: 128 where nothing is told
unfoldable pub length_at : Words → Option (Length × Words)
length_at [] = Some (L128, [])
length_at (w ∷ ws) = if bytes_eq w (codes "160") then Some (L160, ws) else None

unfoldable pub load_at : Words → Option (StatedCommand × Words)
load_at ws = do
  milestone ← milestone_at ws
  kind ← kind_at milestone.1
  program ← bytes_at kind.1
  record_length ← length_at program.1
  Some (
    Load record {
      milestone = milestone.0;
      kind = kind.0;
      program = program.0;
      record_length = record_length.0;
    },
    record_length.1,
  )

unfoldable pub unload_at : Words → Option (StatedCommand × Words)
unload_at ws = do
  milestone ← milestone_at ws
  kind ← kind_at milestone.1
  Some (Plain (commands.Unload record { milestone = milestone.0; kind = kind.0 }), kind.1)

unfoldable pub show_at : Words → Option (StatedCommand × Words)
show_at ws = do
  flight ← number_at 1 most_word ws
  Some (Plain (commands.Show flight.0), flight.1)

-- the command of this name
unfoldable pub command_named : List ℕ → Words → Option (StatedCommand × Words)
command_named name ws =
    if bytes_eq name (codes "schedule") then schedule_at ws
    else (if bytes_eq name (codes "report") then report_at ws
    else (if bytes_eq name (codes "load") then load_at ws
    else (if bytes_eq name (codes "unload") then unload_at ws
    else (if bytes_eq name (codes "tick") then Some (Plain commands.Tick, ws)
    else (if bytes_eq name (codes "show") then show_at ws
    else (if bytes_eq name (codes "alerts") then Some (Plain commands.Alerts, ws)
    else (if bytes_eq name (codes "migrate") then Some (Plain commands.Migrate, ws)
    else (if bytes_eq name (codes "deice") then deice_at ws else None))))))))

unfoldable pub asked_at : Words → Option (StatedCommand × Words)
asked_at ws = word_at ws >>= λ name. command_named name.0 name.1

-- ---- lines

-- so many more answers, after these
abbrev pub answers_from : List ℕ → ℕ → Words → Option (List ℕ × Words)
answers_from given zero ws = Some (given, ws)
answers_from given (suc k) ws =
    number_at 0 most_word ws >>= λ a. answers_from (given ++ a.0 ∷ []) k a.1

unfoldable pub answers_at : Words → Option (List ℕ × Words)
answers_at ws = number_at 0 most_word ws >>= λ count. answers_from [] count.0 count.1

unfoldable pub stated_at : Words → Option (Stated × Words)
stated_at ws = do
  number ← number_at 0 most_word ws
  session ← number_at 1 64 number.1
  moment ← number_at 1 most_minute session.1
  role ← role_at moment.1
  outcome ← number_at 0 most_word role.1
  answers ← answers_at outcome.1
  asked ← asked_at answers.1
  Some (
    record {
      number = number.0;
      session = session.0;
      moment = moment.0;
      role = role.0;
      outcome = outcome.0;
      answers = answers.0;
      asked = asked.0;
    },
    asked.1,
  )

-- nothing may follow
abbrev pub alone : Stated × Words → Option Stated
alone (s, []) = Some s
alone (s, w ∷ ws) = None

-- what a line states
unfoldable pub stated_of : List ℕ → Option Stated
stated_of line = stated_at (words_of line) >>= alone

-- What a function returned is the reading of a line, unless memory ran out, which it may only where
-- it needs some.
abbrev pub GivesLine : Bool → Result Stated ReadError → Option Stated → Type 0
GivesLine needs_memory (Ok s) r = r ≡ Some s
GivesLine needs_memory (Err Memory) r = needs_memory ≡ true
GivesLine needs_memory (Err Unreadable) r = r ≡ None
