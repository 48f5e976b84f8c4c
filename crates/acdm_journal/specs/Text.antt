-- The text of a journal: one line for each entry (this project's profile).
use Rattle.std.specs.Prelude.{ℕ, List, [], ◌∷◌, ◌++◌, length, map, codes, Option, Some, None}
use Rattle.std.specs.List.{join_with_byte}
use Rattle.std.specs.Fmt.{decimal}
use Rattle.hex.specs.Hex.{encode_lower}
use Rattle.acdm_milestones.specs.declared.milestone.Milestone.{Milestone}
use Rattle.acdm_milestones.specs.Tables.{number}
use Rattle.acdm_milestones.specs.Codes.{refusal_code}
use Rattle.acdm_milestones.specs.Names.{role_name}
use Rattle.acdm_milestones.specs.Deicing.{deicing_name}
use Rattle.bpf_regstate.specs.declared.length.Length.{Length}
use Rattle.bpf_regstate.specs.declared.length.Length.TheVariants.{L128, L160}
use Rattle.bpf_decode.specs.Encoding.{encoding}
use Rattle.acdm_slots.specs.declared.kind.Kind as kinds
use Rattle.acdm_slots.specs.Names.{kind_name}
use Rattle.acdm_step.specs.Facts.{ScheduleFacts, ReportFacts}
use Rattle.acdm_step.specs.declared.command.FlightPlan.{FlightPlan}
use Rattle.acdm_step.specs.declared.command.Command.{Command}
use Rattle.acdm_step.specs.declared.command.Command.TheVariants as commands
use Rattle.acdm_step.specs.declared.command.Deice.{Deice}
use Rattle.acdm_step.specs.declared.command.Command.TheVariants.{Schedule, Report}
use Rattle.acdm_step.specs.declared.entry.Verdict.{Verdict}
use Rattle.acdm_step.specs.declared.entry.Verdict.TheVariants.{Accepted, Refused}
use Rattle.acdm_step.specs.declared.entry.Entry.{Entry}
use Rattle.acdm_step.specs.Commands.{History}
use Rattle.acdm_journal.specs.declared.stated.Stated.{Stated}
use Rattle.acdm_step.specs.declared.stated.StatedCommand.{StatedCommand}
use Rattle.acdm_step.specs.declared.stated.StatedCommand.TheVariants.{Plain, Load}

-- ---- numbers

-- 0, or the number of the refusal
abbrev pub outcome_code : Verdict → ℕ
outcome_code Accepted = 0
outcome_code (Refused x) = refusal_code x

-- ---- the words of a command

-- callsign, aircraft type, registration and destination
abbrev pub plan_words : FlightPlan → List (List ℕ)
plan_words p = p.callsign ∷ p.aircraft ∷ p.registration ∷ p.destination ∷ []

abbrev pub plan_words_of : Option FlightPlan → List (List ℕ)
plan_words_of None = []
plan_words_of (Some p) = plan_words p

-- SOBT, MTTT, EXIT, EXOT and the stand
abbrev pub time_words : ScheduleFacts → List (List ℕ)
time_words s =
    decimal s.sobt ∷ decimal s.mttt ∷ decimal s.exit ∷ decimal s.exot ∷ decimal s.stand ∷ []

abbrev pub schedule_words : ScheduleFacts → List (List ℕ)
schedule_words s =
    codes "schedule" ∷ decimal s.flight ∷ (plan_words s.plan ++ time_words s)

abbrev pub report_words : ReportFacts → List (List ℕ)
report_words r =
    codes "report" ∷ decimal r.flight ∷ decimal (number r.milestone) ∷ decimal r.time
    ∷ plan_words_of r.plan

-- a length is told where it is not that of layout 1
abbrev pub length_words : Length → List (List ℕ)
length_words L128 = []
length_words L160 = codes "160" ∷ []

-- a program is written as its bytes
abbrev pub load_words : Milestone → kinds.Kind → List ℕ → Length → List (List ℕ)
load_words m kind bytes record_length =
    codes "load" ∷ decimal (number m) ∷ kind_name kind ∷ encode_lower bytes
    ∷ length_words record_length

abbrev pub deice_words : Deice → List (List ℕ)
deice_words d = codes "deice" ∷ decimal d.flight ∷ deicing_name d.which ∷ decimal d.time ∷ []

abbrev pub command_words : Command → List (List ℕ)
command_words (Schedule s) = schedule_words s
command_words (Report r) = report_words r
command_words (commands.Deice d) = deice_words d
command_words (commands.Load l) =
    load_words l.milestone l.kind (encoding l.program.ops) l.program.record_length
command_words (commands.Unload u) =
    codes "unload" ∷ decimal (number u.milestone) ∷ kind_name u.kind ∷ []
command_words commands.Tick = codes "tick" ∷ []
command_words commands.Migrate = codes "migrate" ∷ []
command_words (commands.Show f) = codes "show" ∷ decimal f ∷ []
command_words commands.Alerts = codes "alerts" ∷ []

-- ---- a line

abbrev pub asked_words : StatedCommand → List (List ℕ)
asked_words (Plain c) = command_words c
asked_words (Load l) = load_words l.milestone l.kind l.program l.record_length

-- how many answers there are, and then each
abbrev pub answer_words : List ℕ → List (List ℕ)
answer_words answers = decimal (length answers) ∷ map decimal answers

-- the session, the moment, the role and the outcome
abbrev pub head_words : Stated → List (List ℕ)
head_words s =
    decimal s.session ∷ decimal s.moment ∷ role_name s.role ∷ decimal s.outcome ∷ []

abbrev pub line_words : Stated → List (List ℕ)
line_words s =
    decimal s.number ∷ (head_words s ++ (answer_words s.answers ++ asked_words s.asked))

-- the words of a line have single spaces between them
abbrev pub line_of : Stated → List ℕ
line_of s = join_with_byte 32 (line_words s)

-- ---- entries

-- what is asked for, with a program as the bytes that encode it
abbrev pub asked_in : Command → StatedCommand
asked_in (commands.Load l) =
    Load record {
      milestone = l.milestone;
      kind = l.kind;
      program = encoding l.program.ops;
      record_length = l.program.record_length;
    }
asked_in c = Plain c

-- what the line of an entry states
abbrev pub stated_in : Entry → Stated
stated_in e = record {
  number = e.number;
  session = e.session;
  moment = e.moment;
  role = e.role;
  outcome = outcome_code e.verdict;
  answers = e.answers;
  asked = asked_in e.command;
}

-- the text of an entry: `N SESSION MINUTE ROLE OUT K A1 .. AK COMMAND`, and a line feed
abbrev pub entry_text : Entry → List ℕ
entry_text e = line_of (stated_in e) ++ 10 ∷ []

-- the text of a history, of which the newest entry is the first
abbrev pub history_text : History → List ℕ
history_text [] = []
history_text (e ∷ J) = history_text J ++ entry_text e
