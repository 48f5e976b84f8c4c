use Rattle.std.proofs.Common.{sym, ap, ◌∙◌, ◌∷◌}
use Rattle.json.specs.Token.{Token}
use Rattle.json.specs.Lex.{lex, between, token, colon}
use Rattle.acdm_wire.proofs.PlainText.{string_read, at_colon}
use Rattle.acdm_wire.proofs.plain.member_in.Goals as goal

pub returns : goal.returns
returns c =
    let name = c.in_ok-name.ensures in
    let value = c.in_ok-value.ensures in
    let first = sym c.after_space.ensures ∙ ap (lex between) c.in_ok-after.ensures
    ∙ string_read c.in_ok-after.field-0.now c.in_ok-name.name.now c.in_ok-name.rest.now name.0 name.1 in
    let second = ap (lex between) c.in_ok-after-2.ensures ∙ at_colon c.in_ok-after-2.field-0.now
    ∙ ap (λ ls. colon ∷ ls) (sym c.after_space-2.ensures ∙ value.1) in
    (value.0, first ∙ ap (λ ls. token (Token.string c.in_ok-name.name.now) ∷ ls) second, value.2)
