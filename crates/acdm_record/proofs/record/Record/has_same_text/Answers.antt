use Rattle.std.proofs.Common.{nat_eq, ap, ap₂, sym, ◌∙◌}
use Rattle.std.specs.Str.{bytes_eq}
use Rattle.acdm_record.specs.Fields.{text_of}
use Rattle.acdm_record.proofs.SameTexts.{same_by_number}
use Rattle.acdm_record.proofs.record.Record.has_same_text.Goals as goal

pub returns : goal.returns
returns c = ap₂ nat_eq c.text_number.ensures c.text_number-2.ensures
    ∙ same_by_number c.self.inside.bytes c.in_range.ensures c.self.invariant.filled
    c.args.one c.args.other
    (sym c.place.ensures.width ∙ c.if-place.false ∙ c.place-2.ensures.width)
    ∙ ap (λ r. bytes_eq (text_of r c.args.one) (text_of r c.args.other)) c.self.view_is
