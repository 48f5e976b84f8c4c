-- Worked lines and texts, computed by the definitions alone.
use Rattle.std.proofs.Common.{◌≡◌, ℕ, List, [], ◌∷◌, ◌++◌, codes, Some, None, refl}
use Rattle.acdm_milestones.specs.declared.role.Role.{Role}
use Rattle.acdm_milestones.specs.declared.role.Role.TheVariants.{NetworkManager, AirTrafficControl}
use Rattle.acdm_milestones.specs.declared.role.Role.TheVariants.{AirportOperator, GroundHandler}
use Rattle.acdm_milestones.specs.declared.role.Role.TheVariants.{DeicingCompany}
use Rattle.acdm_milestones.specs.declared.deicing.DeicingTime.TheVariants.{EstimatedCommencement}
use Rattle.acdm_milestones.specs.declared.milestone.Milestone.TheVariants.{FlightPlanActivated}
use Rattle.acdm_milestones.specs.declared.milestone.Milestone.TheVariants.{TobtUpdate, TsatIssue}
use Rattle.acdm_milestones.specs.declared.refusal.Refusal.TheVariants.{NotSet}
use Rattle.bpf_decode.specs.declared.op.Op.TheVariants.{Arith, Exit}
use Rattle.bpf_decode.specs.declared.op.Operand.TheVariants.{Immediate}
use Rattle.bpf_decode.specs.declared.op.Code.TheVariants.{Mov}
use Rattle.bpf_decode.specs.declared.op.Width.TheVariants.{W64}
use Rattle.bpf_regstate.specs.declared.length.Length.TheVariants.{L128, L160}
use Rattle.std.specs.Prelude.{pos}
use Rattle.hex.proofs.OnLiterals.{hex_on_literals}
use Rattle.acdm_slots.specs.declared.kind.Kind.TheVariants.{Alert}
use Rattle.acdm_step.specs.declared.command.FlightPlan.{FlightPlan}
use Rattle.acdm_step.specs.declared.command.Command.{Command}
use Rattle.acdm_step.specs.declared.command.Command.TheVariants as commands
use Rattle.acdm_step.specs.declared.command.Command.TheVariants.{Schedule, Report, Deice}
use Rattle.acdm_step.specs.declared.entry.Verdict.{Verdict}
use Rattle.acdm_step.specs.declared.entry.Verdict.TheVariants.{Accepted, Refused}
use Rattle.acdm_step.specs.declared.entry.Entry.{Entry}
use Rattle.acdm_step.specs.declared.stated.StatedCommand.TheVariants.{Plain, Load}
use Rattle.acdm_journal.specs.Text.{entry_text, history_text}
use Rattle.acdm_journal.specs.Reading.{stated_of, stated_at, asked_at, answers_at, command_named}
use Rattle.acdm_journal.specs.Reading.{schedule_at, report_at, load_at, unload_at, show_at, plan_at}
use Rattle.acdm_journal.specs.Reading.{bytes_at, milestone_at, kind_at, role_at, text_at, number_at}
use Rattle.acdm_journal.specs.Reading.{natural_of, length_at, deice_at, deicing_at}
use Rattle.hex.specs.Hex.{encode_with}
use Rattle.std.specs.Fmt.{digits}

the_plan : FlightPlan
the_plan = record {
  callsign = codes "DLH7";
  aircraft = codes "A320";
  registration = codes "DAIBC";
  destination = codes "EDDM";
}

entry : ℕ → ℕ → Role → ℕ → Command → Verdict → List ℕ → Entry
entry n session role moment c v answers =
    record {
      number = n;
      session = session;
      role = role;
      moment = moment;
      command = c;
      verdict = v;
      answers = answers;
    }

scheduled : Entry
scheduled = entry 0 1 AirportOperator 29000580
    (Schedule record {
      flight = 7;
      plan = the_plan;
      sobt = 29000760;
      mttt = 40;
      exit = 5;
      exot = 10;
      stand = 12;
    }) Accepted []

activated : Entry
activated = entry 1 2 NetworkManager 29000580
    (Report record {
      flight = 7;
      milestone = FlightPlanActivated;
      time = 29000760;
      plan = Some the_plan;
    }) Accepted []

refused : Entry
refused = entry 2 3 AirTrafficControl 29000580
    (Report record {
      flight = 7;
      milestone = TsatIssue;
      time = 29000760;
      plan = None;
    }) (Refused NotSet) []

-- three entries, the last of them refused
three_entries : history_text (refused ∷ activated ∷ scheduled ∷ [])
    ≡ codes "0 1 29000580 APT 0 0 schedule 7 DLH7 A320 DAIBC EDDM 29000760 40 5 10 12\n"
    ++ codes "1 2 29000580 NM 0 0 report 7 1 29000760 DLH7 A320 DAIBC EDDM\n"
    ++ codes "2 3 29000580 ATC 205 0 report 7 10 29000760\n"
unfolding the_plan entry scheduled activated refused digits
three_entries = refl

-- a report whose programs used one answer
with_an_answer : entry_text (entry 3 5 GroundHandler 29000580
    (Report record {
      flight = 7;
      milestone = TobtUpdate;
      time = 29000760;
      plan = None;
    }) Accepted (10 ∷ []))
    ≡ codes "3 5 29000580 GH 0 1 10 report 7 9 29000760\n"
unfolding entry digits
with_an_answer = refl

-- the program that answers 7
loaded : entry_text (entry 0 5 AirportOperator 29000580
    (commands.Load record {
      milestone = TobtUpdate;
      kind = Alert;
      program = record {
        record_length = L128;
        ops = Arith W64 Mov 0 (Immediate (pos 7)) ∷ Exit ∷ [];
        sigs = [];
      };
    })
    Accepted [])
    ≡ codes "0 5 29000580 APT 0 0 load 9 alert b7000000070000009500000000000000\n"
unfolding entry digits encode_with
loaded = refl

-- no time, and the commands without flights
questions : entry_text (entry 18446744073709551615 64 AirportOperator 4294967295 commands.Alerts
    Accepted []) ++ entry_text (entry 10 1 AirportOperator 1 commands.Tick Accepted [])
    ++ entry_text (entry 9 1 AirportOperator 1 (commands.Show 18446744073709551615) Accepted [])
    ++ entry_text (entry 8 1 GroundHandler 1
    (Report record { flight = 1; milestone = TobtUpdate; time = 0; plan = None })
    Accepted [])
    ≡ codes "18446744073709551615 64 4294967295 APT 0 0 alerts\n10 1 1 APT 0 0 tick\n9 1 1 APT 0 0 show 18446744073709551615\n8 1 1 GH 0 0 report 1 9 0\n"
unfolding entry digits
questions = refl

-- ---- what is read

answered_line : stated_of (codes "3 5 29000580 GH 0 1 10 report 7 9 29000760")
    ≡ Some record {
      number = 3;
      session = 5;
      moment = 29000580;
      role = GroundHandler;
      outcome = 0;
      answers = 10 ∷ [];
      asked = Plain
          (Report record {
            flight = 7;
            milestone = TobtUpdate;
            time = 29000760;
            plan = None;
          });
    }
unfolding stated_of stated_at asked_at answers_at command_named schedule_at report_at load_at
    unload_at show_at plan_at length_at bytes_at milestone_at kind_at role_at text_at number_at natural_of
    hex_on_literals
answered_line = refl

-- numbers above those of an entry, which are judged later
odd_numbers : stated_of (codes "18446744073709551615 1 1 APT 599 2 0 18446744073709551615 tick")
    ≡ Some record {
      number = 18446744073709551615;
      session = 1;
      moment = 1;
      role = AirportOperator;
      outcome = 599;
      answers = 0 ∷ 18446744073709551615 ∷ [];
      asked = Plain commands.Tick;
    }
unfolding stated_of stated_at asked_at answers_at command_named schedule_at report_at load_at
    unload_at show_at plan_at length_at bytes_at milestone_at kind_at role_at text_at number_at natural_of
    hex_on_literals
odd_numbers = refl

load_line : stated_of (codes "0 5 1 APT 0 0 load 9 alert 9500fe")
    ≡ Some record {
      number = 0;
      session = 5;
      moment = 1;
      role = AirportOperator;
      outcome = 0;
      answers = [];
      asked = Load record {
        milestone = TobtUpdate;
        kind = Alert;
        program = 0x95 ∷ 0 ∷ 0xfe ∷ [];
        record_length = L128;
      };
    }
unfolding stated_of stated_at asked_at answers_at command_named schedule_at report_at load_at
    unload_at show_at plan_at length_at bytes_at milestone_at kind_at role_at text_at number_at natural_of
    hex_on_literals encode_with
load_line = refl

-- a length is told where it is not 128, and no other is read
longer_load_line : stated_of (codes "0 5 1 APT 0 0 load 9 alert 9500fe 160")
    ≡ Some record {
      number = 0;
      session = 5;
      moment = 1;
      role = AirportOperator;
      outcome = 0;
      answers = [];
      asked = Load record {
        milestone = TobtUpdate;
        kind = Alert;
        program = 0x95 ∷ 0 ∷ 0xfe ∷ [];
        record_length = L160;
      };
    }
unfolding stated_of stated_at asked_at answers_at command_named schedule_at report_at load_at
    unload_at show_at plan_at length_at bytes_at milestone_at kind_at role_at text_at number_at natural_of
    hex_on_literals encode_with
longer_load_line = refl

length_of_layout_1 : stated_of (codes "0 5 1 APT 0 0 load 9 alert 9500fe 128") ≡ None
unfolding stated_of stated_at asked_at answers_at command_named schedule_at report_at load_at
    unload_at show_at plan_at length_at bytes_at milestone_at kind_at role_at text_at number_at natural_of
    hex_on_literals encode_with
length_of_layout_1 = refl

migrate_line : stated_of (codes "3 5 1 APT 0 0 migrate")
    ≡ Some record {
      number = 3;
      session = 5;
      moment = 1;
      role = AirportOperator;
      outcome = 0;
      answers = [];
      asked = Plain commands.Migrate;
    }
unfolding stated_of stated_at asked_at answers_at command_named schedule_at report_at load_at
    unload_at show_at plan_at length_at bytes_at milestone_at kind_at role_at text_at number_at natural_of
    hex_on_literals encode_with
migrate_line = refl

deice_line : stated_of (codes "2 6 29000580 DIC 325 0 deice 7 eczt 29000760")
    ≡ Some record {
      number = 2;
      session = 6;
      moment = 29000580;
      role = DeicingCompany;
      outcome = 325;
      answers = [];
      asked = Plain (Deice record {
        flight = 7;
        which = EstimatedCommencement;
        time = 29000760;
      });
    }
unfolding stated_of stated_at asked_at answers_at command_named schedule_at report_at load_at
    deice_at deicing_at unload_at show_at plan_at length_at bytes_at milestone_at kind_at role_at text_at
    number_at natural_of hex_on_literals encode_with
deice_line = refl

no_time_of_deicing : stated_of (codes "2 6 29000580 DIC 325 0 deice 7 aobt 29000760") ≡ None
unfolding stated_of stated_at asked_at answers_at command_named schedule_at report_at load_at
    deice_at deicing_at unload_at show_at plan_at length_at bytes_at milestone_at kind_at role_at text_at
    number_at natural_of hex_on_literals encode_with
no_time_of_deicing = refl

-- a leading zero
leading_zero : stated_of (codes "3 5 29000580 GH 0 1 10 report 07 9 29000760") ≡ None
unfolding stated_of stated_at asked_at answers_at command_named schedule_at report_at load_at
    unload_at show_at plan_at length_at bytes_at milestone_at kind_at role_at text_at number_at natural_of
    hex_on_literals encode_with
leading_zero = refl

-- two spaces
two_spaces : stated_of (codes "3 5 29000580 GH 0 1 10  report 7 9 29000760") ≡ None
unfolding stated_of stated_at asked_at answers_at command_named schedule_at report_at load_at
    unload_at show_at plan_at length_at bytes_at milestone_at kind_at role_at text_at number_at natural_of
    hex_on_literals encode_with
two_spaces = refl

-- a digit in upper case
upper_case : stated_of (codes "0 5 1 APT 0 0 load 9 alert 9500FE") ≡ None
unfolding stated_of stated_at asked_at answers_at command_named schedule_at report_at load_at
    unload_at show_at plan_at length_at bytes_at milestone_at kind_at role_at text_at number_at natural_of
    hex_on_literals encode_with
upper_case = refl

-- half a byte
half_a_byte : stated_of (codes "0 5 1 APT 0 0 load 9 alert 9500f") ≡ None
unfolding stated_of stated_at asked_at answers_at command_named schedule_at report_at load_at
    unload_at show_at plan_at length_at bytes_at milestone_at kind_at role_at text_at number_at natural_of
    hex_on_literals encode_with
half_a_byte = refl

-- a session above 64
session_65 : stated_of (codes "0 65 1 APT 0 0 tick") ≡ None
unfolding stated_of stated_at asked_at answers_at command_named schedule_at report_at load_at
    unload_at show_at plan_at length_at bytes_at milestone_at kind_at role_at text_at number_at natural_of
    hex_on_literals encode_with
session_65 = refl

-- a moment of 0
moment_0 : stated_of (codes "0 1 0 APT 0 0 tick") ≡ None
unfolding stated_of stated_at asked_at answers_at command_named schedule_at report_at load_at
    unload_at show_at plan_at length_at bytes_at milestone_at kind_at role_at text_at number_at natural_of
    hex_on_literals encode_with
moment_0 = refl

-- an answer fewer than are counted
answer_less : stated_of (codes "0 1 1 APT 0 1 tick") ≡ None
unfolding stated_of stated_at asked_at answers_at command_named schedule_at report_at load_at
    unload_at show_at plan_at length_at bytes_at milestone_at kind_at role_at text_at number_at natural_of
    hex_on_literals encode_with
answer_less = refl

-- words after the command
more_words : stated_of (codes "0 1 1 APT 0 0 tick 1") ≡ None
unfolding stated_of stated_at asked_at answers_at command_named schedule_at report_at load_at
    unload_at show_at plan_at length_at bytes_at milestone_at kind_at role_at text_at number_at natural_of
    hex_on_literals encode_with
more_words = refl

-- a space at the end
space_at_end : stated_of (codes "0 1 1 APT 0 0 tick ") ≡ None
unfolding stated_of stated_at asked_at answers_at command_named schedule_at report_at load_at
    unload_at show_at plan_at length_at bytes_at milestone_at kind_at role_at text_at number_at natural_of
    hex_on_literals encode_with
space_at_end = refl

-- a number of 65 bits
too_large : stated_of (codes "18446744073709551616 1 1 APT 0 0 tick") ≡ None
unfolding stated_of stated_at asked_at answers_at command_named schedule_at report_at load_at
    unload_at show_at plan_at length_at bytes_at milestone_at kind_at role_at text_at number_at natural_of
    hex_on_literals encode_with
too_large = refl

-- no time for milestone 10
no_time : stated_of (codes "2 3 29000580 ATC 205 0 report 7 10 0") ≡ None
unfolding stated_of stated_at asked_at answers_at command_named schedule_at report_at load_at
    unload_at show_at plan_at length_at bytes_at milestone_at kind_at role_at text_at number_at natural_of
    hex_on_literals encode_with
no_time = refl

-- no plan for milestone 1
no_plan : stated_of (codes "1 2 29000580 NM 0 0 report 7 1 29000760") ≡ None
unfolding stated_of stated_at asked_at answers_at command_named schedule_at report_at load_at
    unload_at show_at plan_at length_at bytes_at milestone_at kind_at role_at text_at number_at natural_of
    hex_on_literals encode_with
no_plan = refl

-- no byte
empty : stated_of ([]) ≡ None
unfolding stated_of stated_at asked_at answers_at command_named schedule_at report_at load_at
    unload_at show_at plan_at length_at bytes_at milestone_at kind_at role_at text_at number_at natural_of
    hex_on_literals encode_with
empty = refl
