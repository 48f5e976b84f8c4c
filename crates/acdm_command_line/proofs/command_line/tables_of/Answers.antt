use Rattle.std.proofs.Common.{codes, sym, ◌∙◌}
use Rattle.clap.specs.Words.{found_of, rows_of, subcommand_rows_of}
use Rattle.clap.proofs.WalkLemmas.{first_value-rows}
use Rattle.acdm_command_line.proofs.Words.{named_rows, tables_found}
use Rattle.acdm_command_line.proofs.command_line.tables_of.Goals as goal

pub returns : goal.returns
returns c =
    let met = named_rows _ _ _ c.in_ok-inner.field-0-0.now (rows_of (found_of c.in_ok-inner.inner.now))
    c.in_ok-inner.ensures.name c.in_ok-inner.ensures.rows in
    c.get_str.ensures ∙ first_value-rows (found_of c.in_ok-inner.inner.now) (codes "tables")
    ∙ sym (tables_found (subcommand_rows_of c.args.matches.now) c.in_ok-inner.field-0-0.now
    (rows_of (found_of c.in_ok-inner.inner.now)) met)
