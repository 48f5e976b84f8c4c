use Rattle.std.proofs.Common.{sym, ◌∙◌}
use Rattle.clap.specs.Words.{found_of, rows_of, subcommand_rows_of}
use Rattle.clap.proofs.WalkLemmas.{raw_values-rows}
use Rattle.acdm_command_line.proofs.Words.{named_rows, values_found}
use Rattle.acdm_command_line.proofs.command_line.values.Goals as goal

pub returns : goal.returns
returns c =
    let met = named_rows _ _ _ c.in_ok-found.found.now (rows_of (found_of c.in_ok-found.inner.now))
    c.in_ok-found.ensures.name c.in_ok-found.ensures.rows in
    c.get_strs.ensures ∙ raw_values-rows (found_of c.in_ok-found.inner.now) c.args.id.now
    ∙ sym (values_found (subcommand_rows_of c.args.matches.now) c.args.name.now c.args.id.now
    c.in_ok-found.found.now (rows_of (found_of c.in_ok-found.inner.now)) met
    (sym c.if-ne.ensures))
