use Rattle.std.proofs.Common.{◌≡◌, ◌++◌, ◌∷◌, [], true, OnOk, cond, List, ℕ, subst, sym, ap, ◌∙◌}
use Rattle.std.specs.List.{list_all}
use Rattle.json.specs.Print.{escape}
use Rattle.json.specs.Run.{is_plain}
use Rattle.acdm_feed.proofs.Adding.{plain_escape}
use Rattle.acdm_feed.proofs.line.add_string.Goals as goal

pub returns-then-is_plain-clause-adds : goal.returns-then-is_plain-clause-adds
returns-then-is_plain-clause-adds c =
    let plain : list_all is_plain c.args.text.now ≡ true =
    ap (list_all is_plain) (sym c.as_bytes.ensures.value) ∙ sym c.is_plain.ensures ∙ c.if-is_plain.true in
    let is : c.as_bytes-then-is_plain.result.now ≡ escape c.args.text.now =
    c.as_bytes-then-is_plain.ensures.value ∙ sym (plain_escape c.args.text.now plain) in
    subst (λ (p : List ℕ). OnOk c.add_quoted.result (c.add_quoted.new.self.items
    ≡ c.args.out.now.items ++ (cond c.args.comma (44 ∷ []) [] ++ 34 ∷ (p ++ 34 ∷ [])))) is c.add_quoted.ensures.adds
