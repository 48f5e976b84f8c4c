use Rattle.std.proofs.Common.{◌++◌, ◌∷◌, [], true, refl, sym, ap, ◌∙◌}
use Rattle.std.proofs.Math.Bool.{and-true}
use Rattle.json.specs.Token.{null}
use Rattle.acdm_feed.proofs.Adding.{adds_token, is_line}
use Rattle.acdm_feed.proofs.line.FeedLine.null.Goals as goal

pub invariant_of-self-2 : goal.invariant_of-self-2
invariant_of-self-2 c =
    is_line c.self.inside _ c.self.invariant null tt c.self.inside.after_value (sym (and-true c.self.inside.after_value)) _ (refl) refl refl c.in_ok-add.ensures.adds

pub returns-clause-adds : goal.returns-clause-adds
returns-clause-adds c =
    adds_token c.self.inside (record c.self.inside { out = c.add.new.self; after_value = true }) c.self.invariant
    null tt c.self.inside.after_value (sym (and-true c.self.inside.after_value)) _ (refl) refl refl c.in_ok-add.ensures.adds
    ∙ ap (λ v. v.tokens ++ null ∷ []) c.self.view_is
