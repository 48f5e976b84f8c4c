-- Which programs stand in the slots after a history (this project's profile).
use Rattle.std.specs.Prelude.{ℕ, ◌+◌, ◌==◌, if◌then◌else◌, List, [], ◌∷◌, Option, Some, None, Bool}
use Rattle.std.specs.Prelude.{false, ◌||◌}
use Rattle.acdm_milestones.specs.declared.milestone.Milestone.{Milestone}
use Rattle.bpf_helpers.specs.Promise.{Promise}
use Rattle.bpf_semantics.specs.Calls.{has_call}
use Rattle.bpf_regstate.specs.declared.length.Length.{Length}
use Rattle.bpf_regstate.specs.declared.length.Length.TheVariants.{L128, L160}
use Rattle.bpf_regstate.specs.States.{instruction_count}
use Rattle.bpf_verifier.specs.Verdict.{Verified}
use Rattle.acdm_slots.specs.declared.kind.Kind.{Kind}
use Rattle.acdm_slots.specs.declared.kind.Kind.TheVariants as kinds
use Rattle.acdm_slots.specs.Loaded.{Loaded, loaded, place, with_program}
use Rattle.acdm_slots.specs.Migration.{kept_program, migrated_slots}
use Rattle.acdm_step.specs.Programs.{Programs, no_programs}
use Rattle.acdm_step.specs.declared.command.Command.{Command}
use Rattle.acdm_step.specs.declared.command.Command.TheVariants.{Load, Unload, Migrate}
use Rattle.acdm_step.specs.declared.command.Command.TheVariants.{Report}
use Rattle.acdm_step.specs.Commands.{History, is_accepted}

-- ---- the programs

-- what an accepted command puts into a slot, where it loads or unloads that one
abbrev pub slot_change : Milestone → Kind → Command → Option (Option Verified)
slot_change m k (Load l) = if place l.milestone l.kind == place m k then Some (Some l.program) else
    None
slot_change m k (Unload u) = if place u.milestone u.kind == place m k then Some None else None
slot_change m k _ = None

abbrev pub changed_or : Option (Option Verified) → Option Verified → Option Verified
changed_or None before = before
changed_or (Some after) before = after

-- what an accepted command makes of a program that it neither loads nor unloads: a migrate judges it
-- again beside the longer records
abbrev pub judged_again : Command → Option Verified → Option Verified
judged_again Migrate before = kept_program L160 before
judged_again _ before = before

-- the program in a slot: that of the last accepted load or unload of the slot, or none, and what
-- accepted migrates made of it since
abbrev pub program_in : History → Milestone → Kind → Option Verified
program_in [] m k = None
program_in (e ∷ J) m k = if is_accepted e.verdict then
    changed_or (slot_change m k e.command) (judged_again e.command (program_in J m k)) else
    program_in J m k

-- those that a command runs: a report the two of its milestone, any other command none
abbrev pub programs_of : History → Command → Programs
programs_of J (Report r) =
    record {
      tobt = program_in J r.milestone kinds.Tobt;
      alert = program_in J r.milestone kinds.Alert;
    }
programs_of J _ = no_programs

-- how many answers they use at most: the instructions of both
abbrev pub size_of : Option Verified → ℕ
size_of None = 0
size_of (Some p) = instruction_count p.ops

abbrev pub room_of : History → Command → ℕ
room_of J c = size_of (programs_of J c).tobt + size_of (programs_of J c).alert

-- whether a program calls a helper, and whether one of those of a command does
abbrev pub may_ask : Option Verified → Bool
may_ask None = false
may_ask (Some p) = has_call p.ops

abbrev pub asks_in : History → Command → Bool
asks_in J c = may_ask (programs_of J c).tobt || may_ask (programs_of J c).alert

-- the room in which none of their answers is missing
abbrev pub answers_room : History → Command → ℕ
answers_room J c = if asks_in J c then room_of J c else 0

-- the slots after an accepted command
abbrev pub with_slots : Command → Loaded → Loaded
with_slots (Load l) slots = with_program slots l.milestone l.kind (Some l.program)
with_slots (Unload u) slots = with_program slots u.milestone u.kind None
with_slots Migrate slots = migrated_slots L160 slots
with_slots _ slots = slots

-- how long the records of a board are: an accepted migrate makes them longer
abbrev pub length_by : Command → Length → Length
length_by Migrate before = L160
length_by _ before = before

abbrev pub record_length_after : History → Length
record_length_after [] = L128
record_length_after (e ∷ J) = if is_accepted e.verdict then
    length_by e.command (record_length_after J) else record_length_after J

-- the slots of a board: in each the program that the history says
abbrev pub slots_of : List (ℕ × Promise) → History → Loaded
slots_of sigs J = loaded sigs (record_length_after J) (program_in J)
