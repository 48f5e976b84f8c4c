use Rattle.std.proofs.Common.{ap}
use Rattle.acdm_commands.proofs.Refusing.{none_at, some_at}
use Rattle.acdm_commands.proofs.tables.tables_at.Goals as goal

pub returns-in-Ok-clause-some : goal.returns-in-Ok-clause-some
returns-in-Ok-clause-some g c =
    some_at c.args.path.now c.new.result c.tables_on.new.reader c.tables_on.result
    (ap (λ s. s.log) c.new.ensures, ap (λ s. s.faults) c.new.ensures, ap (λ s. s.ended) c.new.ensures)
    c.tables_on.ensures.some

pub returns-in-Ok-clause-none : goal.returns-in-Ok-clause-none
returns-in-Ok-clause-none g c =
    none_at c.args.path.now c.new.result c.tables_on.new.reader c.tables_on.result _ _
    (ap (λ s. s.log) c.new.ensures, ap (λ s. s.faults) c.new.ensures, ap (λ s. s.ended) c.new.ensures)
    c.tables_on.ensures.none
