use Rattle.std.proofs.Common.{sym, subst}
use Rattle.acdm_judging.specs.Gave.{GaveBytes}
use Rattle.acdm_tables.specs.Reading.{most_text}
use Rattle.acdm_commands.proofs.Refusing.{gave_none}
use Rattle.acdm_commands.proofs.tables.tables_on.Goals as goal

pub returns-in-Err-clause-none : goal.returns-in-Err-clause-none
returns-in-Err-clause-none g c =
    gave_none c.args.path.now c.as_slice.result.now c.in-Err.error c.args.reader.now
    c.bytes_of.new.reader c.args.errors.now c.refuse.new.errors
    (subst (λ t. GaveBytes most_text c.args.reader.now c.bytes_of.new.reader t)
    (sym c.as_slice.ensures.value) c.in-Ok.ensures.gave) c.in-Err.ensures c.refuse.ensures
