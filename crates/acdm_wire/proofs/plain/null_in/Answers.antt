use Rattle.std.proofs.Common.{refl, sym, ap, ◌∙◌, ◌∷◌}
use Rattle.json.specs.Token.{Token}
use Rattle.json.specs.Lex.{lex, between}
use Rattle.acdm_wire.proofs.PlainText.{null_read}
use Rattle.acdm_wire.proofs.plain.null_in.Goals as goal

pub returns-then-ends_value : goal.returns-then-ends_value
returns-then-ends_value c =
    let text = c.in_ok-after.ensures ∙ ap (λ bs. 110 ∷ bs) (c.in_ok-after-2.ensures
    ∙ ap (λ bs. 117 ∷ bs) (c.in_ok-after-3.ensures ∙ ap (λ bs. 108 ∷ bs) c.in_ok-rest.ensures)) in
    (Token.null, ap (lex between) text ∙ null_read c.in_ok-rest.rest.now (sym c.ends_value.ensures ∙ c.if-ends_value.true), refl)
