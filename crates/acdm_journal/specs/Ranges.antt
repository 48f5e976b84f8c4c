-- Which values the parts of a line may have (this project's profile).
use Rattle.std.specs.Prelude.{ℕ, ◌≡◌, ◌≤◌, ◌<◌, ◌^◌, false, List, length, Option, Some}
use Rattle.std.specs.Prelude.{None}
use Rattle.std.specs.List.{AllByRecursion}
use Rattle.acdm_record.specs.Texts.{text_from}
use Rattle.bpf_decode.specs.Encoding.{IsProgram}
use Rattle.acdm_step.specs.Facts.{IsSchedule, IsReport, ScheduleFacts, ReportFacts}
use Rattle.acdm_step.specs.declared.command.TheConstants.{MINUTES_OF_DAY}
use Rattle.acdm_step.specs.declared.command.FlightPlan.{FlightPlan}
use Rattle.acdm_step.specs.declared.command.Command.{Command}
use Rattle.acdm_step.specs.declared.command.Command.TheVariants as commands
use Rattle.acdm_step.specs.declared.command.Command.TheVariants.{Schedule, Report, Deice}
use Rattle.acdm_step.specs.declared.entry.Entry.{Entry}
use Rattle.acdm_step.specs.Commands.{is_load}
use Rattle.acdm_step.specs.History.{IsInRange}
use Rattle.acdm_journal.specs.declared.stated.Stated.{Stated}
use Rattle.acdm_step.specs.declared.stated.StatedCommand.{StatedCommand}
use Rattle.acdm_step.specs.declared.stated.StatedCommand.TheVariants.{Plain, Load}
use Rattle.acdm_journal.specs.Text.{asked_in}

-- a text of 1 to so many printable bytes
abbrev pub IsText : ℕ → List ℕ → Type 0
IsText most t = text_from most t ≡ Some t

pub record IsPlan (p : FlightPlan) : Type 0 where
  pub callsign : IsText 8 p.callsign
  pub aircraft : IsText 4 p.aircraft
  pub registration : IsText 8 p.registration
  pub destination : IsText 4 p.destination

abbrev pub IsPlanOf : Option FlightPlan → Type 0
IsPlanOf None = Unit {0}
IsPlanOf (Some p) = IsPlan p

abbrev pub IsWord : ℕ → Type 0
IsWord n = n < 2 ^ 64

abbrev pub IsByte : ℕ → Type 0
IsByte b = b < 256

pub record AreTimes (s : ScheduleFacts) : Type 0 where
  pub sobt_given : 1 ≤ s.sobt
  pub sobt : s.sobt < 2 ^ 32
  pub mttt : s.mttt ≤ MINUTES_OF_DAY
  pub exit : s.exit < 2 ^ 8
  pub exot : s.exot ≤ MINUTES_OF_DAY
  pub stand : s.stand < 2 ^ 16

-- what a command keeps, and the widths of its numbers
pub record IsScheduleLine (s : ScheduleFacts) : Type 0 where
  pub kept : IsSchedule s.flight s.sobt s.mttt s.exot
  pub flight : IsWord s.flight
  pub plan : IsPlan s.plan
  pub sobt : s.sobt < 2 ^ 32
  pub exit : s.exit < 2 ^ 8
  pub stand : s.stand < 2 ^ 16

pub record IsReportLine (r : ReportFacts) : Type 0 where
  pub kept : IsReport r.flight r.milestone r.time r.plan
  pub flight : IsWord r.flight
  pub time : r.time < 2 ^ 32
  pub plan : IsPlanOf r.plan

abbrev pub IsCommandLine : Command → Type 0
IsCommandLine (Schedule s) = IsScheduleLine s
IsCommandLine (Report r) = IsReportLine r
IsCommandLine (Deice d) = (1 ≤ d.flight) × IsWord d.flight × (d.time < 2 ^ 32)
IsCommandLine (commands.Show f) = (1 ≤ f) × IsWord f
IsCommandLine _ = Unit {0}

abbrev pub IsAsked : StatedCommand → Type 0
IsAsked (Plain c) = (is_load c ≡ false) × IsCommandLine c
IsAsked (Load l) = AllByRecursion IsByte l.program

-- what a line may state
pub record IsStated (s : Stated) : Type 0 where
  pub number : IsWord s.number
  pub where_and_when : IsInRange s.session s.moment
  pub outcome : IsWord s.outcome
  pub few_answers : IsWord (length s.answers)
  pub answers : AllByRecursion IsWord s.answers
  pub asked : IsAsked s.asked

-- a program that a command loads is one
abbrev pub LoadsProgram : Command → Type 0
LoadsProgram (commands.Load l) = IsProgram l.program.ops
LoadsProgram _ = Unit {0}

-- The parts of an entry are in the ranges of their types, and a program that it loads is one. Of
-- sessions and moments, and of the verdict, a legal history says more.
pub record FitsTypes (e : Entry) : Type 0 where
  pub number : IsWord e.number
  pub answers : AllByRecursion IsWord e.answers
  pub asked : IsAsked (asked_in e.command)
  pub program : LoadsProgram e.command
