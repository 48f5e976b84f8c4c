use Rattle.std.proofs.Common.{Ok}
use Rattle.std.proofs.lemmas.Result.{err_from_is_err_and}
use Rattle.acdm_commands.proofs.FromEmpty.{from_empty, stops_so}
use Rattle.acdm_commands.proofs.run_command.run_from_empty.Goals as goal

pub returns-clause-serves : goal.returns-clause-serves
returns-clause-serves g c =
    let made = c.in_ok-desk.ensures in
    from_empty _ _ c.in_ok-desk.desk c.run.new.desk c.args.reader.now c.run.new.reader
    c.args.writer.now c.run.new.writer made.empty made.capacity made.sigs (Ok tt) c.in_ok-run.ensures

pub returns-in_err-run-clause-stops : goal.returns-in_err-run-clause-stops
returns-in_err-run-clause-stops g c =
    let made = c.in_ok-desk.ensures in
    let failure = c.from_residual-in_err-run in
    let p = err_from_is_err_and failure.result failure.ensures.1 in
    rw (p.1, p.2)
    (stops_so _ _ c.in_ok-desk.desk c.run.new.desk c.args.reader.now c.run.new.reader
    c.args.writer.now c.run.new.writer made.empty made.capacity made.sigs _ c.in_err-run.ensures)
