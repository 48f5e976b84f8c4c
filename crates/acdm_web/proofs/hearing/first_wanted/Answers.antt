use Rattle.std.proofs.Common.{rules, ◌≡◌, subst, option_map}
use Rattle.acdm_web.specs.Wanted.{Wants}
use Rattle.acdm_web.proofs.hearing.first_wanted.Goals as goal

pub returns-in-Some : goal.returns-in-Some
returns-in-Some g c =
    subst (λ b. Wants (option_map (λ n. n.now) c.args.name) b c.in-Some.request) (search rules) c.in-Some.ensures.wanted
