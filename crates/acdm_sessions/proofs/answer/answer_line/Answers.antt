use Rattle.std.proofs.Common.{◌≢◌, length, Err, refl, ap}
use Rattle.acdm_sessions.proofs.Answering.{fault_read, answers_short, answers_fault}
use Rattle.acdm_sessions.proofs.Answering.{answers_program, answers_full, answers_entered}
use Rattle.acdm_sessions.proofs.answer.answer_line.Goals as goal

pub returns-in-Err-Memory : goal.returns-in-Err-Memory
returns-in-Err-Memory g c = answers_short c.args.desk.now c.args.desk.now c.args.line.now refl

pub returns-in-Err-Fault : goal.returns-in-Err-Fault
returns-in-Err-Fault g c =
    rw c.in-Err-Fault.field-0-is
    (answers_fault c.args.desk.now c.args.desk.now c.args.line.now c.in-Err-Fault.fault
    (fault_read c.args.line.now c.in-Err-Fault.field-0 c.in-Err-Fault.fault
    c.in-Err-Fault.field-0-is c.in-Err-Fault.ensures.reads) refl)

pub returns-in-Err : goal.returns-in-Err
returns-in-Err g c =
    rw c.from.ensures
    (answers_program c.args.desk.now c.args.desk.now c.sigs.result.now c.args.line.now
    c.in-Ok.request c.in-Ok.ensures.reads c.sigs.ensures c.in-Err.error c.in-Err.ensures.reads
    refl)

pub returns-in-Ok-call_for : goal.returns-in-Ok-call_for
returns-in-Ok-call_for g c =
    let made = c.in-Ok-call_for.ensures.entry in
    let room : length c.args.desk.now.history ≢ c.args.desk.now.capacity =
    λ same. let e = c.in-Ok-call_for.ensures.full.1 same in cc in
    answers_entered c.args.desk.now c.call_for.new.self c.sigs.result.now c.args.line.now
    c.in-Ok.request c.in-Ok.ensures.reads c.sigs.ensures c.in-Ok-command_for.command
    made.answers c.in-Ok-call_for.reply.number c.in-Ok-call_for.reply.outcome
    c.in-Ok-command_for.ensures.reads room made.entry made.outcome_is
    c.in-Ok-call_for.ensures.number

pub returns-in-Err-Memory-call_for : goal.returns-in-Err-Memory-call_for
returns-in-Err-Memory-call_for g c =
    answers_short c.args.desk.now c.call_for.new.self c.args.line.now c.in-Err-Memory-call_for.ensures.err

pub returns-in-Err-Full : goal.returns-in-Err-Full
returns-in-Err-Full g c =
    answers_full c.args.desk.now c.call_for.new.self c.sigs.result.now c.args.line.now
    c.in-Ok.request c.in-Ok.ensures.reads c.sigs.ensures c.in-Ok-command_for.command
    c.in-Ok-command_for.ensures.reads
    (c.in-Err-Full.ensures.full.0 (ap Err c.in-Err-Full.field-0-is)) c.in-Err-Full.ensures.err
