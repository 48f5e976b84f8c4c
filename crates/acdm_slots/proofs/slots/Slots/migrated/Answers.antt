use Rattle.std.proofs.Common.{sym, subst, ◌∙◌}
use Rattle.acdm_slots.specs.Loaded.{IsBoard}
use Rattle.acdm_slots.proofs.Migrating.{migrated_board, migrated_is}
use Rattle.acdm_slots.proofs.slots.Slots.migrated.Goals as goal

pub of-slots-requires : goal.of-slots-requires
of-slots-requires c =
    subst IsBoard (sym (migrated_is c.args.record_length c.args.self.now c.in_ok-sigs.sigs
    c.loop-milestone.programs.items c.loop-milestone.rest.now
    (c.in_ok-sigs.ensures ∙ c.sigs.ensures.value) c.in_default.ensures.cases
    c.loop-milestone.invariant.0))
    (migrated_board c.args.record_length c.args.self.now c.sigs.ensures.fit)

pub returns-clause-slots : goal.returns-clause-slots
returns-clause-slots c =
    c.of-slots.ensures
    ∙ migrated_is c.args.record_length c.args.self.now c.in_ok-sigs.sigs
    c.loop-milestone.programs.items c.loop-milestone.rest.now
    (c.in_ok-sigs.ensures ∙ c.sigs.ensures.value) c.in_default.ensures.cases
    c.loop-milestone.invariant.0
