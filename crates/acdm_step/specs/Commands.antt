-- What one command says, and what one entry of a history says (this project's profile). A history
-- is the list of its entries, the newest first.
use Rattle.std.specs.Prelude.{ℕ, Bool, true, false, ◌&&◌, ◌||◌, ◌==◌, if◌then◌else◌, List, [], ◌∷◌, ◌++◌}
use Rattle.std.specs.Prelude.{Option, Some, None}
use Rattle.acdm_record.specs.declared.field.Field.TheVariants.{Mttt, Exot, Stand, Exit}
use Rattle.acdm_record.specs.declared.field.Field.TheVariants.{Sobt}
use Rattle.acdm_record.specs.declared.field.TextField.TheVariants.{Callsign, ScheduledType}
use Rattle.acdm_record.specs.declared.field.TextField.TheVariants.{PlanType, ScheduledRegistration}
use Rattle.acdm_record.specs.declared.field.TextField.TheVariants.{PlanRegistration}
use Rattle.acdm_record.specs.declared.field.TextField.TheVariants.{ScheduledDestination}
use Rattle.acdm_record.specs.declared.field.TextField.TheVariants.{PlanDestination}
use Rattle.acdm_record.specs.Assign.{Assignment, number_is, text_is}
use Rattle.acdm_milestones.specs.Tables.{number, times_of}
use Rattle.acdm_milestones.specs.Deicing.{deicing_field}
use Rattle.acdm_step.specs.declared.command.FlightPlan.{FlightPlan}
use Rattle.acdm_step.specs.declared.command.Command.{Command}
use Rattle.acdm_step.specs.declared.command.Command.TheVariants.{Load, Tick, Migrate, Show}
use Rattle.acdm_step.specs.declared.command.Command.TheVariants.{Schedule, Report, Deice}
use Rattle.acdm_step.specs.declared.command.Command.TheVariants as commands
use Rattle.acdm_step.specs.declared.entry.Verdict.{Verdict}
use Rattle.acdm_step.specs.declared.entry.Verdict.TheVariants.{Accepted, Refused}
use Rattle.acdm_step.specs.declared.entry.Entry.{Entry}

abbrev pub History : Type 0
History = List Entry

-- ---- what one command says

-- the flight of a command; where it names none this is 0, which is no flight
abbrev pub flight_of : Command → ℕ
flight_of (Schedule s) = s.flight
flight_of (Report r) = r.flight
flight_of (Deice d) = d.flight
flight_of (Show f) = f
flight_of _ = 0

-- whether it changes the record of one flight
abbrev pub changes_flight : Command → Bool
changes_flight (Schedule s) = true
changes_flight (Report r) = true
changes_flight (Deice d) = true
changes_flight _ = false

abbrev pub is_tick : Command → Bool
is_tick Tick = true
is_tick _ = false

abbrev pub is_deice : Command → Bool
is_deice (Deice d) = true
is_deice _ = false

abbrev pub is_migrate : Command → Bool
is_migrate Migrate = true
is_migrate _ = false

abbrev pub is_load : Command → Bool
is_load (Load l) = true
is_load _ = false

abbrev pub plan_assignments : Option FlightPlan → List Assignment
plan_assignments None = []
plan_assignments (Some p) = text_is Callsign p.callsign ∷ text_is PlanType p.aircraft
    ∷ text_is PlanRegistration p.registration ∷ text_is PlanDestination p.destination ∷ []

-- what a command assigns to its flight where it is accepted
abbrev pub assigned_by : Command → List Assignment
assigned_by (Schedule s) =
    text_is Callsign s.plan.callsign ∷ text_is ScheduledType s.plan.aircraft
    ∷ text_is ScheduledRegistration s.plan.registration
    ∷ text_is ScheduledDestination s.plan.destination
    ∷ number_is Sobt s.sobt ∷ number_is Mttt s.mttt ∷ number_is Exit s.exit ∷ number_is Exot s.exot
    ∷ number_is Stand s.stand ∷ []
assigned_by (Report r) = times_of r.milestone r.time ++ plan_assignments r.plan
assigned_by (Deice d) = number_is (deicing_field d.which) d.time ∷ []
assigned_by _ = []

-- the bit that it sets in the reached word, if any: 0 for a schedule, m for milestone m
abbrev pub bit_of : Command → Option ℕ
bit_of (Schedule s) = Some 0
bit_of (Report r) = Some (number r.milestone)
bit_of _ = None

-- the milestone that its programs are told; a command without programs tells none
abbrev pub told_milestone : Command → ℕ
told_milestone (Report r) = number r.milestone
told_milestone _ = 0

-- whether it creates its flight where that is not there: a schedule and milestone 1 do
abbrev pub creates : Command → Bool
creates (Schedule s) = true
creates (Report r) = number r.milestone == 1
creates _ = false

-- whether it copies programs where it is accepted
abbrev pub takes_programs : Command → Bool
takes_programs c = is_load c || is_migrate c

-- ---- what one entry says

abbrev pub is_accepted : Verdict → Bool
is_accepted Accepted = true
is_accepted (Refused x) = false

-- an accepted entry that changes a flight
abbrev pub is_of : ℕ → Entry → Bool
is_of f e = is_accepted e.verdict && (changes_flight e.command && flight_of e.command == f)

-- an accepted tick
abbrev pub ticks : Entry → Bool
ticks e = is_accepted e.verdict && is_tick e.command

-- an accepted migrate
abbrev pub migrates : Entry → Bool
migrates e = is_accepted e.verdict && is_migrate e.command

-- the flight that an entry creates where it is not there yet
abbrev pub created : Entry → Option ℕ
created e = if is_accepted e.verdict && creates e.command then Some (flight_of e.command) else None

abbrev pub is_alerts : Command → Bool
is_alerts commands.Alerts = true
is_alerts _ = false
