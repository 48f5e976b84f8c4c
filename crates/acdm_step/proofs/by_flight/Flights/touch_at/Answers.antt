use Rattle.std.proofs.Common.{◌<◌, ◌==◌, length, set, slice_get, not, ap, sym, subst, ◌∙◌}
use Rattle.std.proofs.lemmas.Option.{same_Some}
use Rattle.std.specs.Map.{values_of}
use Rattle.acdm_step.specs.Board.{touched}
use Rattle.acdm_step.proofs.Kept.{kept, keeps_touched, values-set}
use Rattle.acdm_step.proofs.by_flight.Flights.touch_at.Goals as goal

pub invariant_of-self : goal.invariant_of-self
invariant_of-self c =
    let es = c.self.inside.records.entries in
    kept es _ c.self.inside.marks.words c.put.new.self.words c.args.place c.touch.new.record
    (not c.is_empty-alerted.result) c.self.invariant
    (subst (λ rs. c.args.place < length rs) (sym c.self.view_is) c.requires)
    (keeps_touched (values_of es) c.args.place c.args.moment c.index_mut-record.result.now
    c.touch.new.record c.index_mut-record.ensures.value c.touch.ensures)
    (ap not (c.is_empty-alerted.ensures ∙ ap (λ n. n == 0) c.of.ensures)) c.put.ensures

pub returns : goal.returns
returns c =
    λ r there.
    let stood = c.index_mut-record.result.now in
    values-set c.self.inside.records.entries c.args.place c.touch.new.record
    ∙ ap (λ rs. set rs c.args.place c.touch.new.record) c.self.view_is
    ∙ ap (set c.args.self.now c.args.place) (c.touch.ensures
    ∙ ap (touched c.args.moment) (same_Some stood r
    (sym c.index_mut-record.ensures.value
    ∙ ap (λ rs. slice_get rs c.args.place) c.self.view_is ∙ there)))
