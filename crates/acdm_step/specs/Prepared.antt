-- A step in two parts: what a command would do to the board, and the board after that.
use Rattle.std.specs.Prelude.{◌≡◌, ◌<◌, Bool, true, [], ◌∷◌, ◌++◌, map, length, slice_set, Some, None}
use Rattle.acdm_record.specs.declared.field.Field.TheVariants.{Flight}
use Rattle.acdm_record.specs.Fields.{number_of, migrated}
use Rattle.bpf_regstate.specs.declared.length.Length.TheVariants.{L128, L160}
use Rattle.acdm_milestones.specs.declared.role.Role.{Role}
use Rattle.acdm_milestones.specs.declared.role.Action.TheVariants as actions
use Rattle.acdm_milestones.specs.Tables.{owns}
use Rattle.acdm_slots.specs.Loaded.{with_program, program_in}
use Rattle.acdm_step.specs.declared.command.Command.{Command}
use Rattle.acdm_step.specs.declared.command.Command.TheVariants.{Schedule, Report, Deice}
use Rattle.acdm_step.specs.declared.verdicts.TheConstants.{MOST_FLIGHTS}
use Rattle.acdm_step.specs.declared.prepare.Change.{Change}
use Rattle.acdm_step.specs.declared.prepare.Change.TheVariants as changes
use Rattle.acdm_step.specs.History.{Board}
use Rattle.acdm_step.specs.Board.{board_of, touched, place_of, is_long}
use Rattle.acdm_step.specs.Marked.{Keeps}

-- whether a role owns a command that changes a flight
abbrev pub owns_change : Role → Command → Bool
owns_change role (Schedule s) = owns role actions.Schedule
owns_change role (Report r) = owns role (actions.Report r.milestone)
owns_change role (Deice d) = owns role actions.Deice
owns_change role _ = true

-- the board after a change
abbrev pub after_change : Board → Change → Board
after_change b changes.Nothing = b
after_change b (changes.Put i r) = board_of (slice_set b.records i r) b.slots
after_change b (changes.Add r) = board_of (b.records ++ r ∷ []) b.slots
after_change b (changes.Touch moment) = board_of (map (touched moment) b.records) b.slots
after_change b (changes.Migrate slots) = board_of (map migrated b.records) slots
after_change b (changes.Load m k p) = board_of b.records (with_program b.slots m k (Some p))
after_change b (changes.Unload m k) = board_of b.records (with_program b.slots m k None)

-- what a change asks of the board that it is made to, which a plan made on that board ensures
abbrev pub Fits : Board → Change → Type 0
Fits b (changes.Put i r) = (i < length b.records) × Keeps b.records i r
    × (is_long b.slots.record_length r ≡ true)
Fits b (changes.Add r) = (length b.records < MOST_FLIGHTS)
    × (place_of b.records (number_of r Flight) ≡ length b.records)
    × (is_long b.slots.record_length r ≡ true)
Fits b (changes.Load m k p) = (p.record_length ≡ b.slots.record_length)
    × (p.sigs ≡ b.slots.sigs)
Fits b (changes.Migrate slots) = (b.slots.record_length ≡ L128) × (slots.record_length ≡ L160)
Fits b (changes.Unload m k) = program_in b.slots m k ≡ None → ⊥
Fits b _ = Unit {0}
