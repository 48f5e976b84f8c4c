use Rattle.acdm_sessions.proofs.Ordering.{fault_read, orders_short, orders_fault, orders_no_minute}
use Rattle.acdm_sessions.proofs.Ordering.{orders_program, orders_command}
use Rattle.acdm_sessions.proofs.order.order_in.Goals as goal

pub returns-in-Err-Memory-clause-orders : goal.returns-in-Err-Memory-clause-orders
returns-in-Err-Memory-clause-orders g c =
    orders_short (g.C.Clock.gives c.args.clock.now) c.args.sigs.now c.args.line.now

pub returns-in-Err-Fault-clause-orders : goal.returns-in-Err-Fault-clause-orders
returns-in-Err-Fault-clause-orders g c =
    rw c.in-Err-Fault.field-0-is
    (orders_fault (g.C.Clock.gives c.args.clock.now) c.args.sigs.now c.args.line.now
    c.in-Err-Fault.fault
    (fault_read c.args.line.now c.in-Err-Fault.field-0 c.in-Err-Fault.fault
    c.in-Err-Fault.field-0-is c.in-Err-Fault.ensures.reads))

pub returns-in_default-clause-orders : goal.returns-in_default-clause-orders
returns-in_default-clause-orders g c =
    orders_no_minute (g.C.Clock.gives c.args.clock.now) c.args.sigs.now c.args.line.now
    c.in-Ok.asked c.in-Ok.ensures.reads

pub returns-in-Ok-command_for-clause-orders : goal.returns-in-Ok-command_for-clause-orders
returns-in-Ok-command_for-clause-orders g c =
    orders_command (g.C.Clock.gives c.args.clock.now) c.args.sigs.now c.args.line.now c.in-Ok.asked
    c.in-Ok.ensures.reads c.in-Some.moment c.in-Some.ensures.given
    c.in-Ok-command_for.command c.in-Ok-command_for.ensures.reads

pub returns-in-Err-clause-orders : goal.returns-in-Err-clause-orders
returns-in-Err-clause-orders g c =
    rw c.from.ensures
    (orders_program (g.C.Clock.gives c.args.clock.now) c.args.sigs.now c.args.line.now c.in-Ok.asked
    c.in-Ok.ensures.reads c.in-Some.moment c.in-Some.ensures.given
    c.in-Err.error c.in-Err.ensures.reads)
