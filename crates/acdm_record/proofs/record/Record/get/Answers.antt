use Rattle.std.proofs.Common.{ap, sym, ◌∙◌}
use Rattle.acdm_record.specs.declared.field.Field.TheVariants.{Layout}
use Rattle.acdm_record.specs.Fields.{number_of, number_at, text_at, is_allowed}
use Rattle.acdm_record.proofs.Places.{number_of-fields_of}
use Rattle.acdm_record.proofs.record.Record.get.Goals as goal

pub returns-clause-value : goal.returns-clause-value
returns-clause-value c =
    c.number_in.ensures.value ∙ sym
    (number_of-fields_of (number_at c.self.inside.bytes) (text_at c.self.inside.bytes)
    c.args.field) ∙ ap (λ r. number_of r c.args.field) c.self.view_is

pub returns-clause-allowed : goal.returns-clause-allowed
returns-clause-allowed c =
    sym (ap (λ r. is_allowed (number_of r Layout) c.args.field c.number_in.result) c.self.view_is)
    ∙ ap (is_allowed (number_at c.self.inside.bytes Layout) c.args.field)
    (c.number_in.ensures.value
    ∙ sym (number_of-fields_of (number_at c.self.inside.bytes) (text_at c.self.inside.bytes)
    c.args.field))
    ∙ c.self.invariant.numbers c.args.field
