use Rattle.std.proofs.Common.{ap, sym, subst, ◌∙◌}
use Rattle.acdm_step.specs.declared.outcome.Outcome.{Outcome}
use Rattle.acdm_step.specs.Commands.{is_accepted}
use Rattle.acdm_step.specs.Verdicts.{verdict_in}
use Rattle.acdm_step.specs.History.{replay, after}
use Rattle.acdm_step.specs.Running.{ComesOf}
use Rattle.acdm_step.proofs.state.Core.apply.Goals as goal

pub returns-clause-outcome : goal.returns-clause-outcome
returns-clause-outcome g c sigs J l eq =
    subst (λ (o : Outcome). ComesOf sigs J c.args.role c.args.moment c.args.command.now
    (g.O.Oracle.view c.args.oracle.now) (g.O.Oracle.view c.plan.new.oracle) o)
    (sym c.commit.ensures.outcome) (c.in_ok-plan.ensures.outcome sigs J l eq)

pub returns-clause-board : goal.returns-clause-board
returns-clause-board g c sigs J session answers l eq given =
    let same = c.commit.ensures.outcome in
    c.commit.ensures.board
    ∙ c.in_ok-plan.ensures.board sigs J session answers l eq
    (λ h. given (ap (λ (o : Outcome). is_accepted (verdict_in o)) same ∙ h))
    ∙ ap (λ (o : Outcome). replay sigs (after J session c.args.role c.args.moment
    c.args.command.now (verdict_in o) answers)) (sym same)
