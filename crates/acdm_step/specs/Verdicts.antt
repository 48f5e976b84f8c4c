-- Verdicts, by the first refusal that applies, and what comes of a command after a history (this
-- project's profile).
use Rattle.std.specs.Prelude.{ℕ, Bool, true, false, ◌&&◌, ◌==◌, not, nat_lt, if◌then◌else◌, List}
use Rattle.std.specs.Prelude.{[], ◌∷◌, map, length, Option, Some, None, Result, Ok, Err}
use Rattle.std.specs.List.{flat_map}
use Rattle.acdm_record.specs.declared.field.Field.TheVariants.{Flight, Alerts}
use Rattle.acdm_record.specs.Fields.{Fields, number_of}
use Rattle.acdm_milestones.specs.declared.role.Role.{Role}
use Rattle.acdm_milestones.specs.declared.role.Action.TheVariants as actions
use Rattle.acdm_milestones.specs.declared.milestone.Milestone.{Milestone}
use Rattle.acdm_milestones.specs.declared.refusal.Refusal.{Refusal}
use Rattle.acdm_milestones.specs.declared.refusal.Refusal.TheVariants.{UnknownFlight, NotOwner}
use Rattle.acdm_milestones.specs.declared.refusal.Refusal.TheVariants.{AlreadyPlanned, FullBoard}
use Rattle.acdm_milestones.specs.declared.refusal.Refusal.TheVariants.{EmptySlot, OtherSignatures}
use Rattle.acdm_milestones.specs.declared.refusal.Refusal.TheVariants.{OtherLength, AlreadyMigrated, FirstLayout}
use Rattle.acdm_milestones.specs.Tables.{number, owns, has_reached, admission}
use Rattle.bpf_helpers.specs.Promise.{Promise}
use Rattle.bpf_helpers.specs.Same.{same_sigs}
use Rattle.acdm_milestones.specs.declared.deicing.DeicingTime.{DeicingTime}
use Rattle.acdm_milestones.specs.Deicing.{deicing_admission}
use Rattle.acdm_slots.specs.Migration.{unloaded}
use Rattle.bpf_regstate.specs.declared.length.Length.{Length}
use Rattle.bpf_regstate.specs.declared.length.Length.TheVariants.{L128, L160}
use Rattle.bpf_regstate.specs.Lengths.{same_length}
use Rattle.bpf_verifier.specs.Verdict.{Verified}
use Rattle.acdm_step.specs.declared.command.Command.{Command}
use Rattle.acdm_step.specs.declared.command.Command.TheVariants.{Load, Unload, Tick, Migrate, Show}
use Rattle.acdm_step.specs.declared.command.Command.TheVariants.{Schedule, Report, Deice}
use Rattle.acdm_step.specs.declared.command.Command.TheVariants as commands
use Rattle.acdm_step.specs.declared.entry.Verdict.{Verdict}
use Rattle.acdm_step.specs.declared.entry.Verdict.TheVariants.{Accepted, Refused}
use Rattle.acdm_step.specs.declared.outcome.Alerted.{Alerted}
use Rattle.acdm_step.specs.declared.outcome.Outcome.{Outcome}
use Rattle.acdm_step.specs.declared.outcome.Outcome.TheVariants as outcomes
use Rattle.acdm_step.specs.Commands.{History, flight_of}
use Rattle.acdm_step.specs.declared.verdicts.TheConstants.{MOST_FLIGHTS}
use Rattle.acdm_step.specs.InSlots.{program_in, record_length_after}
use Rattle.acdm_step.specs.Summaries.{record_of, flights, exists}

-- ---- verdicts, by the first refusal that applies

-- of a schedule or a report of a flight that is there or not, among so many, with this record
abbrev pub schedule_verdict : Bool → ℕ → Fields → Role → Verdict
schedule_verdict there count r role =
    if not (owns role actions.Schedule) then Refused NotOwner
    else (if has_reached r 0 && has_reached r 1 then Refused AlreadyPlanned
    else (if not there && not (nat_lt count MOST_FLIGHTS) then Refused FullBoard
    else Accepted))

abbrev pub verdict_from : Result (Unit {0}) Refusal → Verdict
verdict_from (Ok x) = Accepted
verdict_from (Err x) = Refused x

abbrev pub report_verdict : Bool → ℕ → Fields → Role → Milestone → ℕ → Verdict
report_verdict there count r role m time =
    if not (owns role (actions.Report m)) then Refused NotOwner
    else (if not there && not (number m == 1) then Refused UnknownFlight
    else (if not there && not (nat_lt count MOST_FLIGHTS) then Refused FullBoard
    else verdict_from (admission r role m time)))

abbrev pub tick_verdict : Role → Verdict
tick_verdict role = if owns role actions.Tick then Accepted else Refused NotOwner

-- anyone may see the record of a flight that is there
abbrev pub show_verdict : Bool → Verdict
show_verdict there = if there then Accepted else Refused UnknownFlight

-- ---- what the slots, and the length of the records, have against a command

-- a program may be loaded that was checked beside records of the board's length and against its
-- signatures
abbrev pub load_obstacle : List (ℕ × Promise) → Length → Verified → Option Refusal
load_obstacle sigs record_length p =
    if not (same_length p.record_length record_length) then Some OtherLength
    else (if not (same_sigs p.sigs sigs) then Some OtherSignatures else None)

-- a program may be taken out that is there
abbrev pub unload_obstacle : Option Verified → Option Refusal
unload_obstacle None = Some EmptySlot
unload_obstacle (Some p) = None

abbrev pub refused_by : Option Refusal → Verdict
refused_by None = Accepted
refused_by (Some x) = Refused x

abbrev pub load_verdict : Option Refusal → Role → Verdict
load_verdict against role =
    if not (owns role actions.Load) then Refused NotOwner else refused_by against

abbrev pub unload_verdict : Option Refusal → Role → Verdict
unload_verdict against role =
    if not (owns role actions.Unload) then Refused NotOwner else refused_by against

-- records are brought to layout 2 once
abbrev pub migrate_obstacle : Length → Option Refusal
migrate_obstacle L128 = None
migrate_obstacle L160 = Some AlreadyMigrated

-- layout 1 has no times of de-icing
abbrev pub deice_obstacle : Length → Option Refusal
deice_obstacle L128 = Some FirstLayout
deice_obstacle L160 = None

abbrev pub migrate_verdict : Option Refusal → Role → Verdict
migrate_verdict against role =
    if not (owns role actions.Migrate) then Refused NotOwner else refused_by against

abbrev pub unless_refused : Option Refusal → Verdict → Verdict
unless_refused None v = v
unless_refused (Some x) v = Refused x

-- of a time of de-icing of a flight that is there or not, with this record
abbrev pub deice_verdict : Bool → Fields → Option Refusal → Role → DeicingTime → ℕ → Verdict
deice_verdict there r against role which time =
    if not (owns role actions.Deice) then Refused NotOwner
    else unless_refused against (if not there then Refused UnknownFlight
    else verdict_from (deicing_admission r which time))

-- what they have against a command after a history
abbrev pub obstacle : List (ℕ × Promise) → History → Command → Option Refusal
obstacle sigs J (Load l) = load_obstacle sigs (record_length_after J) l.program
obstacle sigs J (Unload u) = unload_obstacle (program_in J u.milestone u.kind)
obstacle sigs J Migrate = migrate_obstacle (record_length_after J)
obstacle sigs J (Deice d) = deice_obstacle (record_length_after J)
obstacle sigs J _ = None

-- ---- of any command

abbrev pub verdict_for : Bool → ℕ → Fields → Option Refusal → Role → Command → Verdict
verdict_for there count r against role (Schedule s) =
    schedule_verdict there count r role
verdict_for there count r against role (Report p) =
    report_verdict there count r role p.milestone p.time
verdict_for there count r against role (Deice d) =
    deice_verdict there r against role d.which d.time
verdict_for there count r against role (Load l) = load_verdict against role
verdict_for there count r against role (Unload u) = unload_verdict against role
verdict_for there count r against role Tick = tick_verdict role
verdict_for there count r against role Migrate = migrate_verdict against role
verdict_for there count r against role (Show f) = show_verdict there
verdict_for there count r against role commands.Alerts = Accepted

-- the verdict on a command after a history, on a board with these signatures
abbrev pub verdict_of : List (ℕ × Promise) → History → Role → Command → Verdict
verdict_of sigs J role c = verdict_for (exists J (flight_of c)) (length (flights J))
    (record_of J (flight_of c)) (obstacle sigs J c) role c

-- ---- what comes of a command

-- a record's flight with its alerts, where it has any
abbrev pub alerted : Fields → List Alerted
alerted r = if number_of r Alerts == 0 then [] else
    record { flight = number_of r Flight; alerts = number_of r Alerts } ∷ []

abbrev pub alert_list : List Fields → List Alerted
alert_list rs = flat_map alerted rs

-- what an accepted command is answered: the record of a flight, all flights with alerts in order
-- of creation, or the programs that a migrate unloads
abbrev pub answer : History → Command → Outcome
answer J (Show f) = outcomes.Shown (record_of J f)
answer J commands.Alerts = outcomes.Listed (alert_list (map (record_of J) (flights J)))
answer J Migrate = outcomes.Migrated (unloaded L160 (program_in J))
answer J _ = outcomes.Done

abbrev pub outcome_with : Outcome → Verdict → Outcome
outcome_with o Accepted = o
outcome_with o (Refused x) = outcomes.Refused x

-- what comes of a command after a history
abbrev pub outcome_of : List (ℕ × Promise) → History → Role → Command → Outcome
outcome_of sigs J role c = outcome_with (answer J c) (verdict_of sigs J role c)

-- the verdict that an outcome says
abbrev pub verdict_in : Outcome → Verdict
verdict_in (outcomes.Refused x) = Refused x
verdict_in _ = Accepted

-- whether it is a list
abbrev pub is_list : Outcome → Bool
is_list (outcomes.Listed flights) = true
is_list (outcomes.Migrated unloaded) = true
is_list _ = false
