use Rattle.std.proofs.Common.{ap, ◌∙◌}
use Rattle.json.specs.Token.{Token}
use Rattle.json.specs.Lex.{lex, between}
use Rattle.serde_json.specs.Data.{string}
use Rattle.acdm_wire.proofs.PlainText.{string_read}
use Rattle.acdm_wire.proofs.plain.quoted_in.Goals as goal

pub returns : goal.returns
returns c =
    let text = c.in_ok-text.ensures in (
      Token.string c.in_ok-text.text.now,
      ap (lex between) c.in_ok-after.ensures
          ∙ string_read c.in_ok-after.field-0.now c.in_ok-text.text.now c.in_ok-text.rest.now text.0 text.1,
      ap string c.in-Ok.ensures.cases.0,
    )
