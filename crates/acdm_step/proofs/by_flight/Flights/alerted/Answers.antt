use Rattle.std.proofs.Common.{◌≡◌, true, arith, ap, sym, ◌∙◌}
use Rattle.std.specs.Map.{values_of}
use Rattle.acdm_step.specs.Verdicts.{alert_list}
use Rattle.acdm_step.specs.Marked.{is_alerted}
use Rattle.acdm_step.proofs.Kept.{listed_more, listed_all, alerted_inside, length-values}
use Rattle.acdm_step.proofs.by_flight.Flights.alerted.Goals as goal

pub loop-place-preserved : goal.loop-place-preserved
loop-place-preserved c =
    let es = c.self.inside.records.entries in
    let p = c.in-Some.place in
    let on : is_alerted (values_of es) p ≡ true = sym (c.self.invariant.marked p)
    ∙ c.in-Some.ensures.marked in (
      omega (arith, alerted_inside (values_of es) p on, c.self.invariant.few, length-values es),
      listed_more c.loop-place.items.items c.push.new.self.items (values_of es) c.loop-place.from p
          c.index-record.result.now _ c.in_ok-push.ensures.items
          (λ i. record { flight = c.get.ensures.value i; alerts = c.of.ensures i })
          c.index-record.ensures on c.in-Some.ensures.after
          (λ q a b. sym (c.self.invariant.marked q)
          ∙ c.in-Some.ensures.none_before q a b) c.loop-place.invariant.1,
    )

pub returns : goal.returns
returns c =
    c.of-2.ensures ∙ listed_all c.loop-place.items.items (values_of c.self.inside.records.entries)
    c.loop-place.from c.loop-place.invariant.1 (λ p h. sym (c.self.invariant.marked p)
    ∙ c.in_default.ensures p h)
    ∙ ap alert_list c.self.view_is
