use Rattle.std.proofs.Common.{◌≡◌, ◌++◌, length}
use Rattle.std.specs.List.{flat_map}
use Rattle.acdm_slots.specs.Loaded.{program_in, milestones, values}
use Rattle.acdm_slots.specs.Migration.{kept_program, unloaded_of}
use Rattle.acdm_slots.proofs.slots.Slots.migrated.Given as goal

abbrev pub invariant-loop-milestone : goal.invariant-loop-milestone
invariant-loop-milestone l =
    (l.programs.items ++ values (λ m kind. kept_program l.record_length (program_in l.self m kind)) l.rest
    ≡ values (λ m kind. kept_program l.record_length (program_in l.self m kind)) milestones)
    × (l.unloaded.items ++ flat_map (unloaded_of l.record_length (program_in l.self)) l.rest
    ≡ flat_map (unloaded_of l.record_length (program_in l.self)) milestones)

abbrev pub decreases-loop-milestone : goal.decreases-loop-milestone
decreases-loop-milestone l = length l.rest
