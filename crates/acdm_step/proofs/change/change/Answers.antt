use Rattle.std.proofs.Common.{ap, ◌∙◌}
use Rattle.bpf_helpers.proofs.OracleLemmas.{unasked}
use Rattle.acdm_step.specs.Commands.{is_deice}
use Rattle.acdm_step.proofs.Long.{length_160}
use Rattle.acdm_step.proofs.Runs.{changes_scheduled, changes_deiced}
use Rattle.acdm_step.proofs.change.change.Goals as goal

pub returns-in-Schedule-clause-changed : goal.returns-in-Schedule-clause-changed
returns-in-Schedule-clause-changed g c =
    changes_scheduled c.args.slots.now c.args.record.now c.set_scheduled.new.record
    c.touch.new.record c.args.moment c.args.command.now (g.O.Oracle.view c.args.oracle.now)
    (g.O.Oracle.view c.args.oracle.now) c.touch.ensures (unasked _) c.in-Schedule.schedule
    c.in-Schedule.is c.set_scheduled.ensures

pub returns-in-Deice-clause-changed : goal.returns-in-Deice-clause-changed
returns-in-Deice-clause-changed g c =
    changes_deiced c.args.slots.now c.args.record.now c.set_deiced.new.record
    c.touch-in-Deice.new.record c.args.moment c.args.command.now
    (g.O.Oracle.view c.args.oracle.now) (g.O.Oracle.view c.args.oracle.now)
    c.touch-in-Deice.ensures (unasked _) c.in-Deice.deice c.in-Deice.is c.set_deiced.ensures

-- only a record of layout 2 comes here with a time of de-icing
pub set_deiced-requires : goal.set_deiced-requires
set_deiced-requires g c =
    c.requires.long ∙ length_160 c.args.slots.now.record_length
    (c.requires.second (ap is_deice c.in-Deice.is))
