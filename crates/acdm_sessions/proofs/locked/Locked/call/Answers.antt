use Rattle.std.proofs.Common.{ap}
use Rattle.acdm_row.specs.Views.{RowView}
use Rattle.acdm_sessions.proofs.Calling.{calls}
use Rattle.acdm_sessions.proofs.locked.Locked.call.Goals as goal

pub returns-clause-calls : goal.returns-clause-calls
returns-clause-calls g c =
    let called = c.in-Ok.ensures.called in
    calls g.J.Naming.desk_row.sigs _ _ c.args.order c.args.pass.now _ _
    (ap (λ (r : RowView). r.sigs) c.args.self.now.of_run) called.entry c.in-Ok.ensures.pass
    c.in-Ok.ensures.caller called.number
