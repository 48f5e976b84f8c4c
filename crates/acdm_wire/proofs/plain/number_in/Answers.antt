use Rattle.std.proofs.Common.{sym, refl, ap, ◌∙◌, take}
use Rattle.std.proofs.lemmas.List.{take_rest}
use Rattle.json.specs.Token.{Token}
use Rattle.acdm_wire.specs.Plain.{is_no_digit, ends_value}
use Rattle.acdm_wire.proofs.PlainText.{position_is, number_read, no_sign, unsigned_is}
use Rattle.acdm_wire.proofs.plain.number_in.Goals as goal

pub returns : goal.returns
returns c =
    let bytes = c.args.bytes.now in
    let end = c.in_ok-end.end in
    let place = position_is is_no_digit bytes end (sym c.in_ok-end.ensures.place) in
    let number = c.is_number.ensures c.if-not-is_number.false in
    let value = c.in_ok-number.ensures in
    rw (take_rest bytes end) (
      Token.number (take end bytes),
      number_read bytes end place number.0 number.1
          (sym (ap ends_value (take_rest bytes end)) ∙ sym c.ends_value.ensures ∙ c.if-not-ends_value.false),
      (
        c.in_ok-number.number,
        unsigned_is (take end bytes) c.in_ok-number.number c.scan.result
            (no_sign bytes end place number.0) c.scan.ensures.parts value.0.0 value.0.1 value.1,
        refl,
      ),
    )
