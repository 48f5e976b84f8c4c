use Rattle.std.proofs.Common.{◌≡◌, true, ap, sym, subst, ◌∙◌}
use Rattle.acdm_record.specs.declared.field.Field.TheVariants.{Layout}
use Rattle.acdm_record.specs.Fields.{set_number, number_of, is_allowed}
use Rattle.acdm_record.proofs.Puts.{number_put, number_padded, number_spare}
use Rattle.acdm_record.proofs.Kept.{kept-number}
use Rattle.acdm_record.proofs.record.Record.set.Goals as goal

pub invariant_of-self : goal.invariant_of-self
invariant_of-self c =
    let o = c.place-offset.result.0 in
    let w = c.place-offset.result.1 in
    let b = c.self.inside.bytes in
    let at = c.place-offset.ensures in
    kept-number b _ c.args.field c.args.value
    (number_put c.args.field c.args.value o w b c.write_uint.new.buf at.offset at.width c.self.told
    at.inside c.write_uint.ensures c.requires.fits)
    (subst (λ r. is_allowed (number_of r Layout) c.args.field c.args.value ≡ true)
    (sym c.self.view_is) c.requires.allowed)
    (number_padded c.args.field c.args.value o w b c.write_uint.new.buf at.offset at.width
    c.self.told at.inside c.write_uint.ensures c.self.invariant.filled)
    (number_spare c.args.field c.args.value o w b c.write_uint.new.buf at.offset at.width
    c.self.told at.inside c.write_uint.ensures) c.self.invariant

pub returns : goal.returns
returns c =
    let at = c.place-offset.ensures in
    number_put c.args.field c.args.value c.place-offset.result.0 c.place-offset.result.1
    c.self.inside.bytes c.write_uint.new.buf at.offset at.width c.self.told at.inside
    c.write_uint.ensures c.requires.fits
    ∙ ap (λ r. set_number r c.args.field c.args.value) c.self.view_is
