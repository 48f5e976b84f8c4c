-- One step on the records themselves, in order of creation, and on the slots.
use Rattle.std.specs.Prelude.{ℕ, ◌≡◌, Bool, true, ◌&&◌, map, ◌==◌, nat_lt, if◌then◌else◌, List, []}
use Rattle.std.specs.Prelude.{◌∷◌, ◌++◌, length, slice_index_or, slice_set, Option, None}
use Rattle.std.specs.List.{position_or_len, list_all}
use Rattle.acdm_record.specs.declared.field.Field.TheVariants.{Flight, Alerts, Layout}
use Rattle.acdm_record.specs.Fields.{Fields, number_of, set_number, new_record, length_of}
use Rattle.acdm_record.specs.Fields.{migrated}
use Rattle.acdm_record.specs.Assign.{with_all}
use Rattle.bpf_regstate.specs.declared.length.Length.{Length}
use Rattle.bpf_regstate.specs.declared.length.Length.TheVariants.{L128, L160}
use Rattle.bpf_regstate.specs.Lengths.{bytes_in}
use Rattle.acdm_alerts.specs.Conditions.{alert_word}
use Rattle.acdm_milestones.specs.declared.role.Role.{Role}
use Rattle.acdm_milestones.specs.declared.refusal.Refusal.{Refusal}
use Rattle.acdm_milestones.specs.Tables.{marked_by}
use Rattle.acdm_slots.specs.declared.kind.Kind.TheVariants as kinds
use Rattle.acdm_slots.specs.Loaded.{Loaded}
use Rattle.acdm_slots.specs.Loaded as slots
use Rattle.acdm_slots.specs.Migration.{unloaded}
use Rattle.acdm_milestones.specs.declared.milestone.Milestone.{Milestone}
use Rattle.acdm_step.specs.declared.command.Command.{Command}
use Rattle.acdm_step.specs.declared.command.Command.TheVariants.{Load, Unload, Migrate, Show}
use Rattle.acdm_step.specs.declared.command.Command.TheVariants.{Report, Deice}
use Rattle.acdm_step.specs.declared.command.Command.TheVariants as commands
use Rattle.acdm_step.specs.declared.entry.Verdict.{Verdict}
use Rattle.acdm_step.specs.declared.outcome.Outcome.{Outcome}
use Rattle.acdm_step.specs.declared.outcome.Outcome.TheVariants as outcomes
use Rattle.acdm_step.specs.Programs.{Programs, no_programs, effect, with_effect}
use Rattle.acdm_step.specs.Commands.{assigned_by, bit_of, told_milestone, flight_of, is_tick, is_migrate}
use Rattle.acdm_step.specs.Commands.{takes_programs}
use Rattle.acdm_step.specs.Commands.{changes_flight, is_accepted}
use Rattle.acdm_step.specs.InSlots.{with_slots}
use Rattle.acdm_step.specs.Verdicts.{verdict_for, alert_list, outcome_with}
use Rattle.acdm_step.specs.Verdicts.{load_obstacle, unload_obstacle, migrate_obstacle}
use Rattle.acdm_step.specs.Verdicts.{deice_obstacle}
use Rattle.acdm_step.specs.History.{Board}

-- records and slots together
abbrev pub board_of : List Fields → Loaded → Board
board_of records slots = record { records = records; slots = slots }

-- each record is as long as its programs were told that it is
abbrev pub is_long : Length → Fields → Bool
is_long record_length r = length_of r == bytes_in record_length

abbrev pub AreLong : Board → Type 0
AreLong b = list_all (is_long b.slots.record_length) b.records ≡ true

-- a record with its alerts anew
abbrev pub touched : ℕ → Fields → Fields
touched moment r = set_number r Alerts (alert_word r moment)

-- a record with what a command of its flight assigns
abbrev pub assigned_to : Fields → Command → Fields
assigned_to r c = marked_by (with_all r (assigned_by c)) (bit_of c)

-- the record of a flight after an accepted command of it, with what these programs say with these
-- answers
abbrev pub record_after : Programs → Fields → ℕ → Command → List ℕ → Fields
record_after ps r moment c answers =
    touched moment (with_effect (effect ps (assigned_to r c) moment (told_milestone c) answers)
    (assigned_to r c))

-- the place of a flight's record, or how many there are
abbrev pub has_number : ℕ → Fields → Bool
has_number f r = number_of r Flight == f

abbrev pub place_of : List Fields → ℕ → ℕ
place_of board f = position_or_len (has_number f) board

abbrev pub is_there : List Fields → ℕ → Bool
is_there board f = nat_lt (place_of board f) (length board)

-- the record that a flight begins with, on a board whose records are so long
abbrev pub layout_of : Length → ℕ
layout_of L128 = 1
layout_of L160 = 2

abbrev pub begun : Length → ℕ → Fields
begun record_length f = set_number (new_record f) Layout (layout_of record_length)

-- the record of a flight, or the one that it begins with
abbrev pub record_on : Board → ℕ → Fields
record_on b f = slice_index_or b.records (place_of b.records f) (begun b.slots.record_length f)

abbrev pub put : List Fields → ℕ → Fields → List Fields
put board f r = if is_there board f then slice_set board (place_of board f) r else board ++ r ∷ []

-- the programs of a milestone
abbrev pub programs_at : Loaded → Milestone → Programs
programs_at l m = record {
  tobt = slots.program_in l m kinds.Tobt;
  alert = slots.program_in l m kinds.Alert;
}

-- the programs that a command runs
abbrev pub programs_on : Loaded → Command → Programs
programs_on l (Report r) = programs_at l r.milestone
programs_on l _ = no_programs

-- what the slots, and the length of the records, have against a command
abbrev pub obstacle_on : Loaded → Command → Option Refusal
obstacle_on l (Load c) = load_obstacle l.sigs l.record_length c.program
obstacle_on l (Unload c) = unload_obstacle (slots.program_in l c.milestone c.kind)
obstacle_on l Migrate = migrate_obstacle l.record_length
obstacle_on l (Deice d) = deice_obstacle l.record_length
obstacle_on l _ = None

unfoldable pub board_verdict : Board → Role → Command → Verdict
board_verdict b role c = verdict_for (is_there b.records (flight_of c)) (length b.records)
    (record_on b (flight_of c)) (obstacle_on b.slots c) role c

-- whether it copies programs and is accepted
abbrev pub board_loads : Board → Role → Command → Bool
board_loads b role c = takes_programs c && is_accepted (board_verdict b role c)

-- what an accepted command is answered
abbrev pub board_answer : Board → Command → Outcome
board_answer b (Show f) = outcomes.Shown (record_on b f)
board_answer b commands.Alerts = outcomes.Listed (alert_list b.records)
board_answer b Migrate = outcomes.Migrated (unloaded L160 (slots.program_in b.slots))
board_answer b _ = outcomes.Done

unfoldable pub board_outcome : Board → Role → Command → Outcome
board_outcome b role c = outcome_with (board_answer b c) (board_verdict b role c)

-- the records after an accepted command
abbrev pub board_changed : Board → ℕ → Command → List ℕ → List Fields
board_changed b moment c answers =
    if is_tick c then map (touched moment) b.records
    else (if is_migrate c then map migrated b.records
    else (if changes_flight c then
    put b.records (flight_of c) (record_after (programs_on b.slots c)
    (record_on b (flight_of c)) moment c answers) else b.records))

unfoldable pub board_after : Board → Role → ℕ → Command → List ℕ → Board
board_after b role moment c answers =
    if is_accepted (board_verdict b role c) then
    record { records = board_changed b moment c answers; slots = with_slots c b.slots } else b
