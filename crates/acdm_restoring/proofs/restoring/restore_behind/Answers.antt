use Rattle.std.proofs.Common.{subst, sym}
use Rattle.acdm_restoring.specs.Restored.{RestoresBehind}
use Rattle.acdm_restoring.proofs.Behind.{none_restored, restored}
use Rattle.acdm_restoring.proofs.restoring.restore_behind.Goals as goal

pub returns-then-number-ge-MOST_BEFORE-clause-restores :
    goal.returns-then-number-ge-MOST_BEFORE-clause-restores
returns-then-number-ge-MOST_BEFORE-clause-restores g c =
    none_restored c.args.desk.now c.args.reader.now c.core-core.ensures.legal

pub returns-clause-restores : goal.returns-clause-restores
returns-clause-restores g c =
    subst (λ r. RestoresBehind c.args.desk.now c.read_behind-end.new.place c.args.reader.now
    c.read_behind-end.new.reader r) (sym c.answer_of.ensures)
    (restored c.args.desk.now c.read_behind-end.new.place c.read_behind-end.new.to.bytes c.args.reader.now
    c.read_behind-end.new.reader c.read_behind-end.result c.read_behind-end.ensures.reads)
