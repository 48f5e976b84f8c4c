use Rattle.acdm_commands.proofs.Refusing.{not_same, told_other}
use Rattle.acdm_commands.proofs.beside.gives.Goals as goal

pub returns-clause-other : goal.returns-clause-other
returns-clause-other g c off =
    told_other c.args.path.now c.args.tables.now c.in-Some.found c.args.reader.now c.tables_on.new.reader
    c.args.errors.now c.tables_on.new.errors c.tell_other.new.errors
    (not_same c.is_same.result c.if-is_same.false c.is_same.ensures) c.in-Some.ensures.some
    c.in-Some.ensures.quiet c.tell_other.ensures
