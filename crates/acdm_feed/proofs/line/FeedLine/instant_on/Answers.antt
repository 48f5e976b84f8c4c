use Rattle.std.proofs.Common.{◌++◌, ◌∷◌, [], true, refl, sym, ap, ◌∙◌}
use Rattle.std.proofs.Math.Bool.{and-true}
use Rattle.json.specs.Token.{string}
use Rattle.acdm_feed.specs.Minutes.{minute_text}
use Rattle.acdm_feed.proofs.Adding.{adds_token, is_line}
use Rattle.acdm_feed.proofs.Instants.{instant_text}
use Rattle.acdm_feed.proofs.line.FeedLine.instant_on.Goals as goal

pub invariant_of-self-2 : goal.invariant_of-self-2
invariant_of-self-2 c =
    is_line c.self.inside _ c.self.invariant (string (minute_text c.args.minute)) tt c.self.inside.after_value
    (sym (and-true c.self.inside.after_value)) _
    (instant_text c.args.minute c.args.day.number c.args.day.begin c.rest_of.result c.requires c.args.day.text
    c.rest_of.ensures c.args.day.plain) refl refl c.in_ok-add_pair.ensures.adds

pub returns-clause-adds : goal.returns-clause-adds
returns-clause-adds c =
    adds_token c.self.inside
    (record c.self.inside { out = c.add_pair.new.self; after_value = true; day = c.args.day }) c.self.invariant
    (string (minute_text c.args.minute)) tt c.self.inside.after_value (sym (and-true c.self.inside.after_value)) _
    (instant_text c.args.minute c.args.day.number c.args.day.begin c.rest_of.result c.requires c.args.day.text
    c.rest_of.ensures c.args.day.plain) refl refl c.in_ok-add_pair.ensures.adds
    ∙ ap (λ v. v.tokens ++ string (minute_text c.args.minute) ∷ []) c.self.view_is
