use Rattle.std.proofs.Common.{ap, ◌∙◌}
use Rattle.acdm_keeping.proofs.shared.SharedKeeper.end.Goals as goal

pub returns-in-Ok-clause-kept : goal.returns-in-Ok-clause-kept
returns-in-Ok-clause-kept g c =
    c.into_keeper-keeper.ensures.kept (ap (λ k. k.has_failed) c.into_keeper-keeper.ensures.same
    ∙ ap (λ w. w.keeper.has_failed) c.compare.ensures.same ∙ c.in-Ok.ensures.works)
