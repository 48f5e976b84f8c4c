use Rattle.std.proofs.Common.{◌++◌, ◌∷◌, [], true, refl, sym, ap, ◌∙◌, rules}
use Rattle.std.proofs.Math.Bool.{and-true}
use Rattle.json.specs.Token.{number}
use Rattle.std.specs.Fmt.{decimal}
use Rattle.json.proofs.Printed.Decimals.{IsNumber-decimal}
use Rattle.acdm_feed.proofs.Adding.{adds_token, is_line}
use Rattle.acdm_feed.proofs.line.FeedLine.u64.Goals as goal

pub invariant_of-self-2 : goal.invariant_of-self-2
invariant_of-self-2 c =
    is_line c.self.inside _ c.self.invariant (number (decimal c.args.n)) (IsNumber-decimal c.args.n (search rules)) c.self.inside.after_value (sym (and-true c.self.inside.after_value)) _ (refl) refl refl c.in_ok-add_number.ensures.adds

pub returns-clause-adds : goal.returns-clause-adds
returns-clause-adds c =
    adds_token c.self.inside (record c.self.inside { out = c.add_number.new.out; after_value = true }) c.self.invariant
    (number (decimal c.args.n)) (IsNumber-decimal c.args.n (search rules)) c.self.inside.after_value (sym (and-true c.self.inside.after_value)) _ (refl) refl refl c.in_ok-add_number.ensures.adds
    ∙ ap (λ v. v.tokens ++ (number (decimal c.args.n)) ∷ []) c.self.view_is
