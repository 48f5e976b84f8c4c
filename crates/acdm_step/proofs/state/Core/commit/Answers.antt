use Rattle.std.proofs.Common.{◌≡◌, true, sym, subst}
use Rattle.std.specs.List.{list_all}
use Rattle.acdm_step.specs.History.{Board}
use Rattle.acdm_step.specs.Board.{is_long}
use Rattle.acdm_step.proofs.Long.{all_put, all_touched, fits_put, fits_first, migrated_long}
use Rattle.acdm_step.proofs.state.Core.commit.Goals as goal

pub invariant_of-self : goal.invariant_of-self
invariant_of-self c =
    let l = c.self.inside.slots.record_length in
    subst (λ rs. list_all (is_long l) rs ≡ true) (sym c.put.ensures)
    (all_put (is_long l) c.self.inside.flights c.in-Put.place c.in-Put.record c.self.invariant
    (subst (λ (b : Board). is_long b.slots.record_length c.in-Put.record ≡ true)
    (sym c.self.view_is)
    (fits_put c.args.self.now c.args.plan.change c.in-Put.place c.in-Put.record c.in-Put.is
    c.requires)))

pub invariant_of-self-in-Touch : goal.invariant_of-self-in-Touch
invariant_of-self-in-Touch c =
    let l = c.self.inside.slots.record_length in
    subst (λ rs. list_all (is_long l) rs ≡ true) (sym c.touch_all.ensures)
    (all_touched l c.in-Touch.moment c.self.inside.flights c.self.invariant)

pub migrate_all-requires : goal.migrate_all-requires
migrate_all-requires c =
    subst (λ l. list_all (is_long l) c.self.inside.flights ≡ true)
    (subst (λ (b : Board). b.slots.record_length ≡ _) (sym c.self.view_is)
    (fits_first c.args.self.now c.args.plan.change c.in-Migrate.slots c.in-Migrate.is c.requires))
    c.self.invariant

pub invariant_of-self-in-Migrate : goal.invariant_of-self-in-Migrate
invariant_of-self-in-Migrate c =
    migrated_long c.args.self.now c.args.plan.change c.in-Migrate.slots c.in-Migrate.is c.requires
    c.self.inside.flights _ c.migrate_all.ensures
