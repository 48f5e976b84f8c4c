use Rattle.std.proofs.Common.{◌<◌, ◌==◌, length, set, slice_get, not, ap, sym, subst, ◌∙◌}
use Rattle.std.proofs.lemmas.Option.{same_Some}
use Rattle.std.specs.Map.{values_of}
use Rattle.acdm_record.specs.Fields.{migrated}
use Rattle.acdm_step.proofs.Kept.{kept, keeps_migrated, values-set}
use Rattle.acdm_step.proofs.by_flight.Flights.migrate_at.Goals as goal

pub invariant_of-self : goal.invariant_of-self
invariant_of-self c =
    let es = c.self.inside.records.entries in
    kept es _ c.self.inside.marks.words c.put.new.self.words c.args.place c.migrate.new.self
    (not c.is_empty-alerted.result) c.self.invariant
    (subst (λ rs. c.args.place < length rs) (sym c.self.view_is) c.requires.inside)
    (keeps_migrated (values_of es) c.args.place c.index_mut-record.result.now
    c.migrate.new.self c.index_mut-record.ensures.value c.migrate.ensures)
    (ap not (c.is_empty-alerted.ensures ∙ ap (λ n. n == 0) c.of.ensures)) c.put.ensures

pub returns : goal.returns
returns c =
    λ r there.
    let stood = c.index_mut-record.result.now in
    values-set c.self.inside.records.entries c.args.place c.migrate.new.self
    ∙ ap (λ rs. set rs c.args.place c.migrate.new.self) c.self.view_is
    ∙ ap (set c.args.self.now c.args.place) (c.migrate.ensures
    ∙ ap migrated (same_Some stood r
    (sym c.index_mut-record.ensures.value
    ∙ ap (λ rs. slice_get rs c.args.place) c.self.view_is ∙ there)))
