use Rattle.std.proofs.Common.{refl, ap, subst}
use Rattle.acdm_milestones.specs.declared.milestone.Milestone.{Milestone}
use Rattle.acdm_milestones.specs.Tables.{number}
use Rattle.bpf_helpers.specs.Oracles.{OracleView}
use Rattle.acdm_slots.specs.declared.kind.Kind.TheVariants.{Tobt, Alert}
use Rattle.acdm_slots.specs.Loaded.{program_in}
use Rattle.acdm_step.specs.Facts.{ReportFacts}
use Rattle.acdm_step.specs.declared.command.Command.{Command}
use Rattle.acdm_step.specs.declared.command.Command.TheVariants.{Report}
use Rattle.acdm_step.specs.Board.{programs_on}
use Rattle.acdm_step.specs.Running.{EndsIn}
use Rattle.acdm_step.proofs.Runs.{changes_to}
use Rattle.acdm_step.proofs.change.change_reported.Goals as goal

pub returns-clause-changed : goal.returns-clause-changed
returns-clause-changed g c =
    let command : Command = Report c.args.report.now in
    let from : OracleView = g.O.Oracle.view c.args.oracle.now in
    let to : OracleView = g.O.Oracle.view c.run_programs.new.oracle in
    let same = ap (λ (r : ReportFacts). r.milestone) c.report.view_is in
    changes_to (programs_on c.args.slots.now command) c.args.record.now c.set_reported.new.record
    c.run_programs.new.record c.touch.new.record c.args.moment
    (number c.args.report.now.milestone) command from to
    c.set_reported.ensures refl
    (subst (λ (m : Milestone). EndsIn
    (record {
      tobt = program_in c.args.slots.now m Tobt;
      alert = program_in c.args.slots.now m Alert;
    }) c.set_reported.new.record c.args.moment
    (number m) from to c.run_programs.new.record)
    same c.in_ok-run_programs.ensures.ended) c.touch.ensures
