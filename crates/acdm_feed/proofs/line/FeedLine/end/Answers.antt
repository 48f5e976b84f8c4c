use Rattle.std.proofs.Common.{◌≡◌, ◌++◌, ◌∷◌, [], subst, ◌∙◌}
use Rattle.json.specs.Print.{print}
use Rattle.acdm_feed.specs.Lineviews.{LineView}
use Rattle.acdm_feed.proofs.Adding.{ended}
use Rattle.acdm_feed.proofs.line.FeedLine.end.Goals as goal

pub returns-in-Ok-clause-ends : goal.returns-in-Ok-clause-ends
returns-in-Ok-clause-ends c =
    subst (λ (v : LineView). c.whole.result.items ≡ v.before ++ (print v.tokens ++ 10 ∷ [])) c.self.view_is
    (ended c.self.inside c.self.invariant c.whole.result.items (c.whole.ensures ∙ c.in-Ok.ensures.adds))
