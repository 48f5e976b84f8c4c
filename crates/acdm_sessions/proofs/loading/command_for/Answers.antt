use Rattle.acdm_sessions.proofs.Completing.{completes_plain, completes_load, completes_refused}
use Rattle.acdm_sessions.proofs.Completing.{checked_is_no_other}
use Rattle.acdm_sessions.proofs.loading.command_for.Goals as goal

pub returns-in-Err-clause-reads : goal.returns-in-Err-clause-reads
returns-in-Err-clause-reads c =
    completes_refused c.args.sigs.now c.args.asked c.in-Load.load c.as_slice.result.now c.in-Load.is
    c.as_slice.ensures c.in-Err.error c.in-Err.ensures.reads

pub returns-in-Plain-clause-reads : goal.returns-in-Plain-clause-reads
returns-in-Plain-clause-reads c =
    completes_plain c.args.sigs.now c.args.asked c.in-Plain.command c.in-Plain.is

pub returns-in-Ok-clause-reads : goal.returns-in-Ok-clause-reads
returns-in-Ok-clause-reads c =
    completes_load c.args.sigs.now c.args.asked c.in-Load.load c.as_slice.result.now c.in-Load.is
    c.as_slice.ensures c.in-Ok.program c.in-Ok.ensures.reads

pub returns-in-Ok-clause-checked : goal.returns-in-Ok-clause-checked
returns-in-Ok-clause-checked c =
    checked_is_no_other c.args.sigs.now c.in-Ok.program c.in-Ok.ensures.reads.checked
