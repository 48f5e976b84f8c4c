use Rattle.std.proofs.Common.{sym, ◌∙◌, ap}
use Rattle.acdm_web.specs.Wanted.{is_name}
use Rattle.acdm_web.proofs.Names.{passed_over}
use Rattle.acdm_web.proofs.request.value_of.Goals as goal

pub loop-field-preserved : goal.loop-field-preserved
loop-field-preserved c =
    passed_over c.args.name.now c.args.bytes.now c.in-Some.field.now c.in-Some.more.now c.loop-field.rest.now _
    c.in-Some.ensures.cases.0
    (ap (λ t. is_name t c.args.name.now) (sym c.of.ensures) ∙ sym c.is_name.ensures ∙ c.if-is_name.false)
    c.loop-field.invariant
