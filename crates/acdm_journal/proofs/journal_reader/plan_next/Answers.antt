use Rattle.acdm_journal.proofs.NextEntry.{planned_next}
use Rattle.acdm_journal.proofs.journal_reader.plan_next.Goals as goal

pub returns : goal.returns
returns g c = λ first at J has legal count.
    planned_next (g.U.JournalUse.sigs first at) c.sigs.result.now J c.args.line.now
    c.board-board.result.now c.args.number c.plan_line.result c.sigs.ensures
    (c.board-board.ensures first at J has) legal count c.plan_line.ensures.plans
    c.plan_line.ensures.fits
