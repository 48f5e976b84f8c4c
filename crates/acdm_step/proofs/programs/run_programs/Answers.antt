use Rattle.acdm_step.proofs.Runs.{asks_second, ends_in}
use Rattle.acdm_step.proofs.Steps.{on_err}
use Rattle.acdm_step.proofs.programs.run_programs.Goals as goal

pub returns-in_err-locals-clause-unanswered : goal.returns-in_err-locals-clause-unanswered
returns-in_err-locals-clause-unanswered g c =
    on_err c.from_residual-in_err-locals.result
    (asks_second _ c.args.record.now c.suggest.new.record c.args.moment _ _ _ _ c.in_ok-tobt.tobt
    c.run_slot.ensures.same_rule c.in_ok-tobt.ensures.ended c.suggest.ensures
    c.in_err-locals.ensures.unanswered)

pub returns-clause-ended : goal.returns-clause-ended
returns-clause-ended g c =
    ends_in _ c.args.record.now c.suggest.new.record c.args.moment _ _ _
    (g.O.Oracle.view c.run_slot-2.new.oracle) c.in_ok-tobt.tobt c.run_slot.ensures.same_rule
    c.in_ok-tobt.ensures.ended c.suggest.ensures
    c.decide_locals.new.record c.in_ok-locals.locals c.in_ok-locals.ensures.ended
    c.decide_locals.ensures
