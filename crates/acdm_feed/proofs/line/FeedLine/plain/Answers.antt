use Rattle.std.proofs.Common.{◌++◌, ◌∷◌, [], true, refl, sym, ap, ◌∙◌}
use Rattle.std.proofs.Math.Bool.{and-true}
use Rattle.json.specs.Token.{string}
use Rattle.acdm_feed.proofs.Adding.{adds_token, is_line, plain_escape}
use Rattle.acdm_feed.proofs.line.FeedLine.plain.Goals as goal

pub invariant_of-self-2 : goal.invariant_of-self-2
invariant_of-self-2 c =
    is_line c.self.inside _ c.self.invariant (string c.args.text.now) tt c.self.inside.after_value (sym (and-true c.self.inside.after_value)) _ (ap (λ s. 34 ∷ (s ++ 34 ∷ [])) (sym (plain_escape c.args.text.now c.requires))) refl refl c.in_ok-add_quoted.ensures.adds

pub returns-clause-adds : goal.returns-clause-adds
returns-clause-adds c =
    adds_token c.self.inside (record c.self.inside { out = c.add_quoted.new.self; after_value = true }) c.self.invariant
    (string c.args.text.now) tt c.self.inside.after_value (sym (and-true c.self.inside.after_value)) _ (ap (λ s. 34 ∷ (s ++ 34 ∷ [])) (sym (plain_escape c.args.text.now c.requires))) refl refl c.in_ok-add_quoted.ensures.adds
    ∙ ap (λ v. v.tokens ++ (string c.args.text.now) ∷ []) c.self.view_is
