use Rattle.std.proofs.Common.{◌++◌, ◌∷◌, [], false, true, refl, sym, ap, ◌∙◌}
use Rattle.std.proofs.Math.Bool.{and-false}
use Rattle.json.specs.Token.{end_array}
use Rattle.acdm_feed.proofs.Adding.{adds_token, is_line}
use Rattle.acdm_feed.proofs.line.FeedLine.end_array.Goals as goal

pub invariant_of-self-2 : goal.invariant_of-self-2
invariant_of-self-2 c =
    is_line c.self.inside _ c.self.invariant end_array tt false (sym (and-false c.self.inside.after_value)) _ (refl) refl refl c.in_ok-add.ensures.adds

pub returns-clause-adds : goal.returns-clause-adds
returns-clause-adds c =
    adds_token c.self.inside (record c.self.inside { out = c.add.new.self; after_value = true }) c.self.invariant
    end_array tt false (sym (and-false c.self.inside.after_value)) _ (refl) refl refl c.in_ok-add.ensures.adds
    ∙ ap (λ v. v.tokens ++ end_array ∷ []) c.self.view_is
