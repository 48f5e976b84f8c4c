use Rattle.std.proofs.Common.{◌≡◌, ◌<◌, ◌≤◌, true, cond, List, length, Some, None, ap, sym, subst}
use Rattle.std.proofs.Common.{◌∙◌}
use Rattle.std.proofs.lemmas.Option.{get_or_from_slice_get}
use Rattle.acdm_milestones.specs.Tables.{has_reached}
use Rattle.acdm_record.specs.Fields.{Fields}
use Rattle.acdm_step.specs.Summaries.{record_of, exists}
use Rattle.acdm_step.specs.History.{Board}
use Rattle.acdm_step.proofs.Records.{reached-summary}
use Rattle.acdm_step.proofs.Replay.{records_of, exists_by_place, record_by_place}
use Rattle.acdm_step.proofs.Steps.{is_lt, no_lt}
use Rattle.acdm_step.proofs.state.Core.record_of.Goals as goal

pub returns-then-place-len-clause-record : goal.returns-then-place-len-clause-record
returns-then-place-len-clause-record c sigs J eq =
    let rs : List Fields = c.self.inside.flights in
    let is : rs ≡ records_of J = ap (λ (b : Board). b.records) (c.self.view_is ∙ eq) in
    let there : exists J c.args.flight ≡ true =
    exists_by_place J c.args.flight c.place-place.result rs is c.place-place.ensures
    ∙ is_lt c.place-place.result (length rs)
    (subst (λ n. c.place-place.result < n) c.len.ensures c.if-place-len.true) in
    ap Some (sym (get_or_from_slice_get rs c.place-place.result c.at.result.now c.at.result.now
    c.at.ensures) ∙ record_by_place J c.args.flight c.place-place.result rs
    is c.place-place.ensures there c.at.result.now)
    ∙ sym (ap (λ b. cond b (Some (record_of J c.args.flight)) None) there)

pub returns-then-place-len-clause-reached : goal.returns-then-place-len-clause-reached
returns-then-place-len-clause-reached c sigs J eq bit =
    let rs : List Fields = c.self.inside.flights in
    let is : rs ≡ records_of J = ap (λ (b : Board). b.records) (c.self.view_is ∙ eq) in
    let there : exists J c.args.flight ≡ true =
    exists_by_place J c.args.flight c.place-place.result rs is c.place-place.ensures
    ∙ is_lt c.place-place.result (length rs)
    (subst (λ n. c.place-place.result < n) c.len.ensures c.if-place-len.true) in
    ap (λ r. has_reached r bit)
    (sym (get_or_from_slice_get rs c.place-place.result c.at.result.now c.at.result.now
    c.at.ensures) ∙ record_by_place J c.args.flight c.place-place.result rs
    is c.place-place.ensures there c.at.result.now)
    ∙ reached-summary J c.args.flight bit

pub returns-else-place-len-clause-record : goal.returns-else-place-len-clause-record
returns-else-place-len-clause-record c sigs J eq =
    let rs : List Fields = c.self.inside.flights in
    let is : rs ≡ records_of J = ap (λ (b : Board). b.records) (c.self.view_is ∙ eq) in
    sym (ap (λ b. cond b (Some (record_of J c.args.flight)) None)
    (exists_by_place J c.args.flight c.place-place.result rs is c.place-place.ensures
    ∙ no_lt c.place-place.result (length rs)
    (subst (λ n. n ≤ c.place-place.result) c.len.ensures c.if-place-len.false)))
