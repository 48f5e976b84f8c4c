use Rattle.std.proofs.Common.{List, subst, ap}
use Rattle.acdm_step.specs.declared.entry.Entry.{Entry}
use Rattle.acdm_row.specs.Notes.{IsKnownAt}
use Rattle.acdm_row.proofs.pass.Pass.recall.Goals as goal

pub returns-clause-known : goal.returns-clause-known
returns-clause-known c = subst (λ (es : List Entry). IsKnownAt c.recall.result.known es c.args.at)
    (ap (λ s. s.seen) c.self.view_is) c.recall.ensures.known
