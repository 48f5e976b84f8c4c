use Rattle.std.proofs.Common.{Ok, Err, ◌++◌, ap, subst, sym}
use Rattle.acdm_step.specs.Commands.{History}
use Rattle.acdm_step.specs.History.{IsLegal}
use Rattle.acdm_restoring.proofs.Behind.{restored_first}
use Rattle.acdm_restoring.proofs.Crash.{goes_on}
use Rattle.acdm_restoring.proofs.restoring.restore.Goals as goal

pub returns-in-Err-clause-restores : goal.returns-in-Err-clause-restores
returns-in-Err-clause-restores g c =
    restored_first c.args.desk.now c.restore_behind.new.desk c.args.reader.now c.restore_behind.new.reader
    (Err c.in-Err.error) c.requires.empty c.in-Err.ensures.restores

pub returns-in-Ok-clause-restores : goal.returns-in-Ok-clause-restores
returns-in-Ok-clause-restores g c =
    restored_first c.args.desk.now c.restore_behind.new.desk c.args.reader.now c.restore_behind.new.reader
    (Ok c.in-Ok.bytes) c.requires.empty c.in-Ok.ensures.restores

pub returns-in-Ok-clause-crash : goal.returns-in-Ok-clause-crash
returns-in-Ok-clause-crash g c = λ written kept left was leaves is.
    let came = c.in-Ok.ensures.restores in
    let after = c.restore_behind.new.desk in
    let gave =
    restored_first c.args.desk.now after c.args.reader.now c.restore_behind.new.reader (Ok c.in-Ok.bytes)
    c.requires.empty came in
    let legal =
    subst (λ (H : History). IsLegal c.args.desk.now.sigs H) (sym (ap (λ d. d.history) came.1)) came.0.legal in
    goes_on _ _ _ _ _ _ legal gave.0 written kept left was leaves is
