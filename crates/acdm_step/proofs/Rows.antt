-- Worked examples, computed by the definitions alone.
use Rattle.std.proofs.Common.{◌≡◌, ℕ, ◌+◌, ◌^◌, pos, negsuc, List, [], ◌∷◌, map, reverse, codes}
use Rattle.std.proofs.Common.{Some, None, refl}
use Rattle.acdm_record.specs.declared.field.Field.TheVariants.{Alerts, Reached, Tobt}
use Rattle.acdm_record.specs.Fields.{bytes_of, number_of}
use Rattle.acdm_milestones.specs.declared.role.Role.{Role}
use Rattle.acdm_milestones.specs.declared.role.Role.TheVariants.{NetworkManager, AirTrafficControl}
use Rattle.acdm_milestones.specs.declared.role.Role.TheVariants.{AirportOperator, GroundHandler}
use Rattle.acdm_milestones.specs.declared.milestone.Milestone.{Milestone}
use Rattle.acdm_milestones.specs.declared.milestone.Milestone.TheVariants.{FlightPlanActivated}
use Rattle.acdm_milestones.specs.declared.milestone.Milestone.TheVariants.{Landed, InBlock}
use Rattle.acdm_milestones.specs.declared.milestone.Milestone.TheVariants.{TobtUpdate, TsatIssue}
use Rattle.acdm_milestones.specs.declared.milestone.Milestone.TheVariants.{StartUpRequest}
use Rattle.bpf_decode.specs.declared.op.Op.{Op}
use Rattle.bpf_decode.specs.declared.op.Op.TheVariants.{Arith, Call, Exit, Load as LoadOp}
use Rattle.bpf_decode.specs.declared.op.Operand.TheVariants.{From, Immediate}
use Rattle.bpf_decode.specs.declared.op.Code.TheVariants.{Add, And, Mov}
use Rattle.bpf_decode.specs.declared.op.Size.TheVariants.{Half}
use Rattle.bpf_decode.specs.declared.op.Width.TheVariants.{W64}
use Rattle.bpf_helpers.specs.Promise.{Promise}
use Rattle.bpf_regstate.specs.declared.length.Length.TheVariants.{L128}
use Rattle.bpf_helpers.specs.Known.{taxi}
use Rattle.bpf_semantics.specs.Machine.{start}
use Rattle.acdm_slots.specs.declared.kind.Kind.{Kind}
use Rattle.acdm_slots.specs.declared.kind.Kind.TheVariants.{Tobt as TobtProgram}
use Rattle.acdm_slots.specs.declared.kind.Kind.TheVariants.{Alert as AlertProgram}
use Rattle.acdm_step.specs.declared.command.FlightPlan.{FlightPlan}
use Rattle.acdm_step.specs.declared.command.Command.{Command}
use Rattle.acdm_step.specs.declared.command.Command.TheVariants.{Load, Unload, Tick, Show}
use Rattle.acdm_step.specs.declared.command.Command.TheVariants.{Schedule, Report}
use Rattle.acdm_step.specs.declared.command.Command.TheVariants as commands
use Rattle.acdm_step.specs.declared.outcome.Outcome.TheVariants as outcomes
use Rattle.acdm_milestones.specs.declared.refusal.Refusal.TheVariants.{Barred, NotOwner, TimeOrder}
use Rattle.acdm_milestones.specs.declared.refusal.Refusal.TheVariants.{NotSet, UnknownFlight}
use Rattle.acdm_milestones.specs.declared.refusal.Refusal.TheVariants.{EmptySlot, OtherSignatures}
use Rattle.acdm_step.specs.declared.entry.Verdict.{Verdict}
use Rattle.acdm_step.specs.declared.entry.Verdict.TheVariants.{Accepted, Refused}
use Rattle.acdm_step.specs.Commands.{History}
use Rattle.acdm_step.specs.InSlots.{program_in}
use Rattle.acdm_step.specs.Summaries.{record_of}
use Rattle.acdm_step.specs.Verdicts.{verdict_of, outcome_of}
use Rattle.acdm_step.specs.History.{after, left_by}

-- one more command, on a board without helpers
abbrev plus : History → ℕ → Role → ℕ → Command → History
plus J session role m c = after J session role m c (verdict_of [] J role c) []

abbrev the_plan : FlightPlan
the_plan = record {
  callsign = codes "DLH7";
  aircraft = codes "A320";
  registration = codes "DAIBC";
  destination = codes "EDDM";
}

abbrev scheduled : Command
scheduled =
    Schedule record {
      flight = 7;
      plan = the_plan;
      sobt = 29000760;
      mttt = 40;
      exit = 5;
      exot = 10;
      stand = 12;
    }

abbrev activated : Command
activated =
    Report record {
      flight = 7;
      milestone = FlightPlanActivated;
      time = 29000760;
      plan = Some the_plan;
    }

abbrev landed : ℕ → Command
landed t = Report record { flight = 7; milestone = Landed; time = t; plan = None }

abbrev in_block : ℕ → Command
in_block t =
    Report record { flight = 7; milestone = InBlock; time = t; plan = None }

abbrev pub first : History
first = plus (plus (plus [] 1 AirportOperator 29000700 scheduled) 2 NetworkManager 29000700
    activated) 3 AirTrafficControl 29000700 (landed 29000700)

abbrev pub four : History
four = plus first 1 AirportOperator 29000700 (in_block 29000699)

abbrev pub five : History
five = plus four 1 AirportOperator 29000700 (in_block 29000700)

abbrev verdicts : History → List Verdict
verdicts J = reverse (map (λ e. e.verdict) J)

-- schedule, plan, landing, an in-block time before the landing, and one at it
row_five : verdicts five ≡ Accepted ∷ Accepted ∷ Accepted ∷ Refused TimeOrder ∷ Accepted ∷ []
row_five = refl

-- a landing after that is barred
barred : verdict_of [] five AirTrafficControl (landed 29000700) ≡ Refused Barred
barred = refl

-- after the refused in-block time another landing is not
not_barred : verdict_of [] four AirTrafficControl (landed 29000700) ≡ Accepted
not_barred = refl

-- the bytes of the record after a schedule and a plan
start_bytes : bytes_of (record_of
    (plus (plus [] 1 AirportOperator 29000580 scheduled) 2 NetworkManager 29000580 activated) 7) ≡ 7
    ∷ 0 ∷ 0 ∷ 0 ∷ 0 ∷ 0 ∷ 0 ∷ 0 ∷ 68 ∷ 76 ∷ 72 ∷ 55 ∷ 0 ∷ 0 ∷ 0 ∷ 0 ∷ 65 ∷ 51 ∷ 50 ∷ 48 ∷ 65 ∷ 51
    ∷ 50 ∷ 48 ∷ 68 ∷ 65 ∷ 73 ∷ 66 ∷ 67 ∷ 0 ∷ 0 ∷ 0 ∷ 68 ∷ 65 ∷ 73 ∷ 66 ∷ 67 ∷ 0 ∷ 0 ∷ 0 ∷ 69 ∷ 68
    ∷ 68 ∷ 77 ∷ 69 ∷ 68 ∷ 68 ∷ 77 ∷ 3 ∷ 0 ∷ 0 ∷ 0 ∷ 0 ∷ 0 ∷ 0 ∷ 0 ∷ 40 ∷ 0 ∷ 10 ∷ 0 ∷ 12 ∷ 0 ∷ 1 ∷ 5
    ∷ 56 ∷ 132 ∷ 186 ∷ 1 ∷ 56 ∷ 132 ∷ 186 ∷ 1 ∷ 0 ∷ 0 ∷ 0 ∷ 0 ∷ 0 ∷ 0 ∷ 0 ∷ 0 ∷ 0 ∷ 0 ∷ 0 ∷ 0 ∷ 0
    ∷ 0 ∷ 0 ∷ 0 ∷ 0 ∷ 0 ∷ 0 ∷ 0 ∷ 0 ∷ 0 ∷ 0 ∷ 0 ∷ 0 ∷ 0 ∷ 0 ∷ 0 ∷ 0 ∷ 0 ∷ 0 ∷ 0 ∷ 0 ∷ 0 ∷ 0 ∷ 0 ∷ 0
    ∷ 0 ∷ 0 ∷ 0 ∷ 0 ∷ 0 ∷ 0 ∷ 0 ∷ 0 ∷ 0 ∷ 0 ∷ 0 ∷ 0 ∷ 0 ∷ 0 ∷ 0 ∷ 0 ∷ 0 ∷ 0 ∷ 0 ∷ []
unfolding bytes_of
start_bytes = refl

-- ---- alerts

abbrev planned_alone : History
planned_alone = plus [] 2 NetworkManager 29000580 activated

-- a flight plan without a schedule has the alert of no airport slot, which the schedule takes away
slot_missing : number_of (record_of planned_alone 7) Alerts ≡ 2
slot_missing = refl

slot_given : number_of (record_of (plus planned_alone 1 AirportOperator 29000580 scheduled) 7)
    Alerts ≡ 0
slot_given = refl

abbrev scheduled_alone : History
scheduled_alone = plus [] 1 AirportOperator 29000579 scheduled

-- a schedule without a flight plan has its alert from 180 minutes before, which a tick tells
plan_not_yet : number_of (record_of scheduled_alone 7) Alerts ≡ 0
plan_not_yet = refl

plan_missing : number_of (record_of (plus scheduled_alone 1 AirportOperator 29000580 Tick) 7) Alerts
    ≡ 8192
plan_missing = refl

tick_refused : verdict_of [] scheduled_alone NetworkManager Tick ≡ Refused NotOwner
tick_refused = refl

tick_without_effect : number_of (record_of (plus scheduled_alone 1 NetworkManager 29000580 Tick) 7)
    Alerts ≡ 0
tick_without_effect = refl

-- ---- questions

-- who may ask: anyone; of which flight: one that is there
shown_record : outcome_of [] scheduled_alone GroundHandler (Show 7)
    ≡ outcomes.Shown (record_of scheduled_alone 7)
shown_record = refl

not_shown : outcome_of [] scheduled_alone GroundHandler (Show 8) ≡ outcomes.Refused UnknownFlight
not_shown = refl

listed_alert : outcome_of [] planned_alone GroundHandler commands.Alerts
    ≡ outcomes.Listed (record { flight = 7; alerts = 2 } ∷ [])
listed_alert = refl

listed_none : outcome_of [] scheduled_alone GroundHandler commands.Alerts ≡ outcomes.Listed []
listed_none = refl

-- ---- a target off-block time that is deleted

abbrev begun : History
begun = plus planned_alone 1 AirportOperator 29000580 scheduled

abbrev reports : Milestone → ℕ → Command
reports m time = Report record { flight = 7; milestone = m; time = time; plan = None }

abbrev deleted : History
deleted =
    plus (plus (plus begun 5 GroundHandler 29000580 (reports TobtUpdate 29000760)) 3
    AirTrafficControl 29000580 (reports TsatIssue 29000760)) 5 GroundHandler 29000580
    (reports TobtUpdate 0)

deleted_alerts : outcome_of [] deleted AirportOperator commands.Alerts
    ≡ outcomes.Listed (record { flight = 7; alerts = 1024 } ∷ [])
deleted_alerts = refl

no_start_up : verdict_of [] deleted AirTrafficControl (reports StartUpRequest 29000760)
    ≡ Refused NotSet
no_start_up = refl

reached_word : number_of (record_of deleted 7) Reached ≡ 0x603
reached_word = refl

-- a target begun-up time needs a target off-block time
no_tsat : verdict_of [] begun AirTrafficControl (reports TsatIssue 29000760) ≡ Refused NotSet
no_tsat = refl

-- ---- local programs

abbrev at_moment : ℕ → List (ℕ × Promise) → History → ℕ → Role → Command → List ℕ → History
at_moment m sigs J session role c answers =
    after J session role m c (verdict_of sigs J role c) answers

abbrev loads : List (ℕ × Promise) → Milestone → Kind → List Op → Command
loads sigs m k ops = Load record {
  milestone = m;
  kind = k;
  program = record { record_length = L128; ops = ops; sigs = sigs };
}

-- r0 is the moment
abbrev tells_now : List Op
tells_now = Arith W64 Mov 0 (From 3) ∷ Exit ∷ []

-- r0 is so many minutes later
abbrev tells_later : ℕ → List Op
tells_later minutes = Arith W64 Mov 0 (From 3) ∷ Arith W64 Add 0 (Immediate (pos minutes)) ∷ Exit
    ∷ []

abbrev tells_a_minute_ago : List Op
tells_a_minute_ago = Arith W64 Mov 0 (From 3) ∷ Arith W64 Add 0 (Immediate (negsuc 0)) ∷ Exit ∷ []

-- flight 7 in block at 09:00, with a TOBT program for that
abbrev in_block_with : List Op → History
in_block_with ops =
    at_moment 29000700 [] (at_moment 29000700 []
    (at_moment 29000700 [] (at_moment 29000700 [] (at_moment 29000700 [] []
    1 AirportOperator (loads [] InBlock TobtProgram ops) [])
    1 AirportOperator scheduled [])
    2 NetworkManager activated [])
    3 AirTrafficControl (landed 29000700) [])
    1 AirportOperator (in_block 29000700) []

-- a TOBT one minute before now can't be used
too_early : outcome_of [] (in_block_with tells_a_minute_ago) AirportOperator commands.Alerts
    ≡ outcomes.Listed (record { flight = 7; alerts = 2 ^ 14 } ∷ [])
unfolding bytes_of start
too_early = refl

no_tobt : number_of (record_of (in_block_with tells_a_minute_ago) 7) Tobt ≡ 0
unfolding bytes_of start
no_tobt = refl

-- one at now can, in place of it: CDM08, CDM09 and CDM07a
abbrev replaced : History
replaced =
    at_moment 29000700 [] (at_moment 29000700 [] (in_block_with tells_a_minute_ago)
    1 AirportOperator (loads [] InBlock TobtProgram tells_now) [])
    1 AirportOperator (in_block 29000700) []

at_once : outcome_of [] replaced AirportOperator commands.Alerts
    ≡ outcomes.Listed (record { flight = 7; alerts = 2 ^ 8 + 2 ^ 9 + 2 ^ 15 } ∷ [])
unfolding bytes_of start
at_once = refl

at_once_tobt : number_of (record_of replaced 7) Tobt ≡ 29000700
unfolding bytes_of start
at_once_tobt = refl

-- it reaches milestone 9 beside 0, 1, 6 and 7
at_once_reached : number_of (record_of replaced 7) Reached ≡ 0x2c3
unfolding bytes_of start
at_once_reached = refl

-- 1440 minutes ahead, and one more
day_ahead : outcome_of [] (in_block_with (tells_later 1440)) AirportOperator commands.Alerts
    ≡ outcomes.Listed (record { flight = 7; alerts = 2 ^ 8 } ∷ [])
unfolding bytes_of start
day_ahead = refl

day_ahead_tobt : number_of (record_of (in_block_with (tells_later 1440)) 7) Tobt ≡ 29002140
unfolding bytes_of start
day_ahead_tobt = refl

too_late : outcome_of [] (in_block_with (tells_later 1441)) AirportOperator commands.Alerts
    ≡ outcomes.Listed (record { flight = 7; alerts = 2 ^ 14 } ∷ [])
unfolding bytes_of start
too_late = refl

-- ---- local alerts, by the taxi time from the stand

abbrev taxi_alone : List (ℕ × Promise)
taxi_alone = (2, taxi) ∷ []

abbrev taxi_time : List Op
taxi_time = LoadOp Half 1 1 (pos 60) ∷ Arith W64 And 1 (Immediate (pos 511)) ∷ Call 2 ∷ Exit ∷ []

abbrev with_alert_program : History
with_alert_program =
    at_moment 29000580 taxi_alone (at_moment 29000580 taxi_alone (at_moment 29000580 taxi_alone []
    1 AirportOperator (loads taxi_alone TobtUpdate AlertProgram taxi_time) [])
    1 AirportOperator scheduled [])
    2 NetworkManager activated []

abbrev with_alerts : History
with_alerts = at_moment 29000580 taxi_alone with_alert_program 5 GroundHandler
    (reports TobtUpdate 29000760) (10 ∷ [])

-- the program uses the one answer, which the table has for stand 12
uses_ten : left_by with_alert_program (reports TobtUpdate 29000760) 29000580 (10 ∷ []) ≡ Some []
unfolding bytes_of start
uses_ten = refl

-- no other is promised, and one is needed
not_eleven : left_by with_alert_program (reports TobtUpdate 29000760) 29000580 (11 ∷ []) ≡ None
unfolding bytes_of start
not_eleven = refl

one_needed : left_by with_alert_program (reports TobtUpdate 29000760) 29000580 [] ≡ None
unfolding bytes_of start
one_needed = refl

one_too_many : left_by with_alert_program (reports TobtUpdate 29000760) 29000580 (10 ∷ 10 ∷ [])
    ≡ Some (10 ∷ [])
unfolding bytes_of start
one_too_many = refl

-- LOC01 and LOC03
local_alerts_told : outcome_of taxi_alone with_alerts AirportOperator commands.Alerts
    ≡ outcomes.Listed (record { flight = 7; alerts = 2 ^ 17 + 2 ^ 19 } ∷ [])
unfolding bytes_of start
local_alerts_told = refl

-- they stay once the program is taken away
abbrev taken_away : History
taken_away =
    at_moment 29000580 taxi_alone (at_moment 29000580 taxi_alone with_alerts
    1 AirportOperator (Unload record { milestone = TobtUpdate; kind = AlertProgram }) [])
    5 GroundHandler (reports TobtUpdate 29000760) []

still_told : outcome_of taxi_alone taken_away AirportOperator commands.Alerts
    ≡ outcomes.Listed (record { flight = 7; alerts = 2 ^ 17 + 2 ^ 19 } ∷ [])
unfolding bytes_of start
still_told = refl

nothing_left : program_in taken_away TobtUpdate AlertProgram ≡ None
unfolding bytes_of start
nothing_left = refl

-- an empty slot, and a program that was checked against other signatures
empty_slot : verdict_of taxi_alone [] AirportOperator
    (Unload record { milestone = TobtUpdate; kind = AlertProgram }) ≡ Refused EmptySlot
empty_slot = refl

other_signatures : verdict_of taxi_alone [] AirportOperator
    (loads [] TobtUpdate AlertProgram tells_now) ≡ Refused OtherSignatures
other_signatures = refl

not_theirs : verdict_of taxi_alone [] NetworkManager (loads [] TobtUpdate AlertProgram tells_now)
    ≡ Refused NotOwner
not_theirs = refl
