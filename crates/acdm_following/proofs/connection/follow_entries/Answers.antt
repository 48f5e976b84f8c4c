use Rattle.std.proofs.Common.{◌≤◌, ◌+◌, ◌-◌, Ok, refl, subst, arith}
use Rattle.acdm_following.specs.Hearing.{Hears}
use Rattle.acdm_following.proofs.Coming.{begins, ends_ended, ends_there, ends_unkept, ends_unread, entered_all, goes_on}
use Rattle.acdm_following.proofs.connection.follow_entries.Goals as goal

pub loop-reads_left-init : goal.loop-reads_left-init
loop-reads_left-init g c =
    begins c.args.name.now c.args.desk.now c.args.source.now c.args.hearing.now.pending 18446744073709551615
    c.core-core.ensures.legal c.requires.well refl

pub returns-in-Err : goal.returns-in-Err
returns-in-Err g c =
    ends_unkept c.args.name.now c.args.desk.now c.loop-reads_left.desk c.enter_lines-entered.new.desk
    c.args.source.now c.loop-reads_left.source c.args.hearing.now.pending c.loop-reads_left.hearing.pending
    c.enter_lines-entered.new.pending c.loop-reads_left.reads_left c.enter_lines-entered.result c.in-Err.failure
    c.loop-reads_left.invariant c.enter_lines-entered.ensures c.in-Err.ensures.failed

pub returns-in-Err-entered : goal.returns-in-Err-entered
returns-in-Err-entered g c =
    ends_there c.args.name.now c.args.desk.now c.loop-reads_left.desk c.enter_lines-entered.new.desk
    c.args.source.now c.loop-reads_left.source c.args.hearing.now.pending c.loop-reads_left.hearing.pending
    c.enter_lines-entered.new.pending c.loop-reads_left.reads_left c.in-Err-entered.why
    c.loop-reads_left.invariant c.in-Err-entered.ensures

pub returns-in-Ok-false : goal.returns-in-Ok-false
returns-in-Ok-false g c =
    let entered =
    entered_all c.args.name.now c.args.desk.now c.loop-reads_left.desk c.enter_lines-entered.new.desk
    c.args.source.now c.loop-reads_left.source c.args.hearing.now.pending c.loop-reads_left.hearing.pending
    c.enter_lines-entered.new.pending c.loop-reads_left.reads_left c.in-Ok-entered.field-0
    c.loop-reads_left.invariant c.in-Ok-entered.ensures in
    let h =
    subst (λ b. Hears c.loop-reads_left.source c.hear.new.source c.enter_lines-entered.new.pending
    c.hear.new.self.pending (Ok b)) c.in-Ok-false.field-0-test c.in-Ok-false.ensures.hears in
    ends_ended c.args.name.now c.args.desk.now c.enter_lines-entered.new.desk c.args.source.now
    c.loop-reads_left.source c.hear.new.source c.args.hearing.now.pending c.enter_lines-entered.new.pending
    c.loop-reads_left.reads_left entered h.0 h.2

pub returns-in-Err-hear : goal.returns-in-Err-hear
returns-in-Err-hear g c =
    let entered =
    entered_all c.args.name.now c.args.desk.now c.loop-reads_left.desk c.enter_lines-entered.new.desk
    c.args.source.now c.loop-reads_left.source c.args.hearing.now.pending c.loop-reads_left.hearing.pending
    c.enter_lines-entered.new.pending c.loop-reads_left.reads_left c.in-Ok-entered.field-0
    c.loop-reads_left.invariant c.in-Ok-entered.ensures in
    ends_unread c.args.name.now c.args.desk.now c.enter_lines-entered.new.desk c.args.source.now
    c.loop-reads_left.source c.hear.new.source c.args.hearing.now.pending c.enter_lines-entered.new.pending
    c.hear.new.self.pending c.loop-reads_left.reads_left c.in-Err-hear.why entered c.in-Err-hear.ensures.hears

pub loop-reads_left-preserved : goal.loop-reads_left-preserved
loop-reads_left-preserved g c =
    let entered =
    entered_all c.args.name.now c.args.desk.now c.loop-reads_left.desk c.enter_lines-entered.new.desk
    c.args.source.now c.loop-reads_left.source c.args.hearing.now.pending c.loop-reads_left.hearing.pending
    c.enter_lines-entered.new.pending c.loop-reads_left.reads_left c.in-Ok-entered.field-0
    c.loop-reads_left.invariant c.in-Ok-entered.ensures in
    let h =
    subst (λ b. Hears c.loop-reads_left.source c.hear.new.source c.enter_lines-entered.new.pending
    c.hear.new.self.pending (Ok b)) c.in-Ok-true.field-0-test c.in-Ok-true.ensures.hears in
    let less : c.loop-reads_left.reads_left ≤ c.loop-reads_left.reads_left - 1 + 1 = omega arith in
    goes_on c.args.name.now c.args.desk.now c.enter_lines-entered.new.desk c.args.source.now
    c.loop-reads_left.source c.hear.new.source c.args.hearing.now.pending c.enter_lines-entered.new.pending
    c.hear.new.self.pending c.loop-reads_left.reads_left (c.loop-reads_left.reads_left - 1) entered h less
