use Rattle.std.proofs.Common.{◌≤◌, length, ap, sym, subst, ◌∙◌}
use Rattle.acdm_record.specs.Place.{text_width_of}
use Rattle.acdm_record.specs.Fields.{text_of, is_text}
use Rattle.acdm_record.proofs.Kept.{text_read, text_short}
use Rattle.acdm_record.proofs.record.Record.text.Goals as goal

pub returns-clause-value : goal.returns-clause-value
returns-clause-value c = text_read c.args.field c.self.inside.bytes c.text_part.result.now
    c.before_zero.result.now c.text_part.ensures c.before_zero.ensures
    ∙ ap (λ r. text_of r c.args.field) c.self.view_is

pub returns-clause-printable : goal.returns-clause-printable
returns-clause-printable c =
    ap is_text (text_read c.args.field c.self.inside.bytes c.text_part.result.now
    c.before_zero.result.now c.text_part.ensures c.before_zero.ensures)
    ∙ c.self.invariant.texts c.args.field

pub returns-clause-short : goal.returns-clause-short
returns-clause-short c =
    subst (λ t. length t ≤ text_width_of c.args.field)
    (sym (text_read c.args.field c.self.inside.bytes c.text_part.result.now c.before_zero.result.now
    c.text_part.ensures c.before_zero.ensures)) (text_short c.self.inside.bytes c.args.field)
