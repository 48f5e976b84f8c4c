use Rattle.std.proofs.Common.{◌≡◌, true, ◌||◌, sym, subst, ◌∙◌}
use Rattle.acdm_step.specs.Commands.{is_alerts}
use Rattle.acdm_step.specs.History.{Board}
use Rattle.acdm_step.specs.Board.{board_loads}
use Rattle.acdm_step.specs.Prepared.{after_change}
use Rattle.acdm_step.proofs.Steps.{on_err}
use Rattle.acdm_step.proofs.Lifting.{told_of, board_told, comes_sigs}
use Rattle.acdm_step.proofs.Replay.{memory-replay}
use Rattle.acdm_step.proofs.state.Core.plan.Goals as goal

pub returns-clause-outcome : goal.returns-clause-outcome
returns-clause-outcome g c sigs J l eq =
    let p = c.in_ok-prepared.prepared in
    told_of sigs J c.args.role c.args.moment c.args.command.now _ _ p.outcome c.args.self.now
    (after_change c.args.self.now p.change) l eq c.in_ok-prepared.ensures.comes

pub returns-clause-board : goal.returns-clause-board
returns-clause-board g c sigs J session answers l eq given =
    let p = c.in_ok-prepared.prepared in
    board_told sigs J c.args.role c.args.moment c.args.command.now _ _ p.outcome c.args.self.now
    (after_change c.args.self.now p.change) l eq c.in_ok-prepared.ensures.comes session answers
    given

pub returns-clause-sigs : goal.returns-clause-sigs
returns-clause-sigs g c =
    let p = c.in_ok-prepared.prepared in
    comes_sigs c.args.self.now (after_change c.args.self.now p.change) c.args.role c.args.moment
    c.args.command.now _ _ p.outcome c.in_ok-prepared.ensures.comes

pub returns-in_err-prepared-clause-memory : goal.returns-in_err-prepared-clause-memory
returns-in_err-prepared-clause-memory g c =
    on_err c.from_residual.result
    (λ sigs J l eq.
    sym (memory-replay sigs J c.args.role c.args.command.now l)
    ∙ subst (λ (b : Board). (is_alerts c.args.command.now
    || board_loads b c.args.role c.args.command.now) ≡ true) eq c.in_err-prepared.ensures.memory)
