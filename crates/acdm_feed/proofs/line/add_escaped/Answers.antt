use Rattle.std.proofs.Common.{◌≡◌, ◌++◌, ◌∷◌, [], OnOk, cond, List, ℕ, subst, ap, ◌∙◌}
use Rattle.json.specs.Print.{escape, print}
use Rattle.json.specs.Token.{string}
use Rattle.acdm_feed.proofs.Adding.{print_string}
use Rattle.acdm_feed.proofs.line.add_escaped.Goals as goal

pub returns-clause-adds : goal.returns-clause-adds
returns-clause-adds c =
    let none : c.string.new.self.before ≡ [] = c.string.ensures.room.0 ∙ c.new-quoted.ensures.before ∙ c.new.ensures.items in
    let one : c.string.new.self.tokens ≡ [] ++ string c.args.text.now ∷ [] =
    c.in_ok-string.ensures.ok ∙ ap (λ ts. ts ++ string c.args.text.now ∷ []) c.new-quoted.ensures.tokens in
    let is : c.as_slice.result.now ≡ 34 ∷ (escape c.args.text.now ++ 34 ∷ []) =
    c.as_slice.ensures.value ∙ c.into_inner-quoted.ensures.items
    ∙ ap (λ b. b ++ print c.string.new.self.tokens) none ∙ print_string c.args.text.now c.string.new.self.tokens one in
    subst (λ (p : List ℕ). OnOk c.add.result (c.add.new.self.items
    ≡ c.args.out.now.items ++ (cond c.args.comma (44 ∷ []) [] ++ p))) is c.add.ensures.adds
