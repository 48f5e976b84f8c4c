use Rattle.std.proofs.Common.{ap, ◌∙◌}
use Rattle.acdm_record.specs.Fields.{set_text}
use Rattle.acdm_record.proofs.Puts.{text_put, text_padded, text_spare}
use Rattle.acdm_record.proofs.Kept.{kept-text}
use Rattle.acdm_record.proofs.record.Record.set_text.Goals as goal

pub invariant_of-self : goal.invariant_of-self
invariant_of-self c =
    let o = c.place-offset.result.0 in
    let w = c.place-offset.result.1 in
    let b = c.self.inside.bytes in
    let ys = c.write_padded.new.part in
    let at = c.place-offset.ensures in
    kept-text b _ c.args.field c.args.text.now
    (text_put c.args.field c.args.text.now o w b ys at.offset at.width c.self.told
    c.write_padded.ensures c.requires.printable c.requires.short) c.requires.printable
    (text_padded c.args.field c.args.text.now o w b ys at.offset at.width c.self.told
    c.write_padded.ensures c.requires.printable c.requires.short c.self.invariant.filled)
    (text_spare c.args.field c.args.text.now o w b ys at.offset at.width c.self.told
    c.write_padded.ensures c.requires.printable c.requires.short) c.self.invariant

pub returns : goal.returns
returns c =
    let at = c.place-offset.ensures in
    text_put c.args.field c.args.text.now c.place-offset.result.0 c.place-offset.result.1
    c.self.inside.bytes c.write_padded.new.part at.offset at.width c.self.told
    c.write_padded.ensures c.requires.printable c.requires.short
    ∙ ap (λ r. set_text r c.args.field c.args.text.now) c.self.view_is
