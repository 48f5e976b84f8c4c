use Rattle.std.proofs.Common.{◌≡◌, ap, subst, sym, ◌∙◌, lit<}
use Rattle.acdm_record.specs.declared.field.Field.TheVariants.{Layout}
use Rattle.acdm_record.specs.Fields.{length_of, migrated}
use Rattle.acdm_record.proofs.Puts.{number_put, number_padded, number_spare}
use Rattle.acdm_record.proofs.Kept.{kept-migrated}
use Rattle.acdm_record.proofs.Stored.{is_first}
use Rattle.acdm_record.proofs.record.Record.migrate.Goals as goal

pub invariant_of-self : goal.invariant_of-self
invariant_of-self c =
    let o = c.place-offset.result.0 in
    let w = c.place-offset.result.1 in
    let b = c.self.inside.bytes in
    let at = c.place-offset.ensures in
    kept-migrated b _
    (number_put Layout 2 o w b c.write_uint.new.buf at.offset at.width c.self.told at.inside
    c.write_uint.ensures (lit< tt))
    (is_first b c.self.invariant
    (subst (λ r. length_of r ≡ 128) (sym c.self.view_is) c.requires))
    (number_padded Layout 2 o w b c.write_uint.new.buf at.offset at.width c.self.told at.inside
    c.write_uint.ensures c.self.invariant.filled)
    (number_spare Layout 2 o w b c.write_uint.new.buf at.offset at.width c.self.told at.inside
    c.write_uint.ensures) c.self.invariant

pub returns : goal.returns
returns c =
    let at = c.place-offset.ensures in
    number_put Layout 2 c.place-offset.result.0 c.place-offset.result.1 c.self.inside.bytes
    c.write_uint.new.buf at.offset at.width c.self.told at.inside c.write_uint.ensures (lit< tt)
    ∙ ap migrated c.self.view_is
