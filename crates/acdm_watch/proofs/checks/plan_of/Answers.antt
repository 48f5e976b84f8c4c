use Rattle.std.proofs.Common.{◌≡◌, ap, subst, rules}
use Rattle.acdm_step.specs.Verdicts.{verdict_in}
use Rattle.acdm_step.specs.Prepared.{after_change}
use Rattle.acdm_watch.specs.Watching.{IsNumbered}
use Rattle.acdm_watch.proofs.Next.{legal_next}
use Rattle.acdm_watch.proofs.checks.plan_of.Goals as goal

pub returns-clause-next : goal.returns-clause-next
returns-clause-next c = λ sigs J legal same number.
    let e = c.args.entry.now in
    let plan = c.in-Some.plan in
    let numbered : IsNumbered c.args.core.now.slots.sigs c.args.number e = search rules in
    let verdict : verdict_in plan.outcome ≡ e.verdict = search rules in
    legal_next sigs J e c.args.number number plan.outcome (after_change c.args.core.now plan.change)
    legal (subst (λ s. IsNumbered s c.args.number e) (ap (λ b. b.slots.sigs) same) numbered)
    (rw (c.in-Some.is, c.as_slice.ensures) at c.in_ok-plan.ensures.plans sigs J legal same) verdict
