use Rattle.std.proofs.Common.{◌≡◌, true, ◌||◌, refl, ap, sym, subst}
use Rattle.bpf_helpers.proofs.OracleLemmas.{unasked}
use Rattle.bpf_helpers.specs.Oracles.{OracleView}
use Rattle.acdm_step.specs.declared.command.Command.{Command}
use Rattle.acdm_step.specs.declared.outcome.Outcome.TheVariants as outcomes
use Rattle.acdm_step.specs.Commands.{is_accepted, is_alerts}
use Rattle.acdm_step.specs.Verdicts.{load_obstacle, load_verdict}
use Rattle.acdm_step.specs.Verdicts.{migrate_obstacle, migrate_verdict}
use Rattle.acdm_step.specs.History.{Board}
use Rattle.acdm_step.specs.Board.{board_loads}
use Rattle.acdm_step.specs.Prepared.{Fits}
use Rattle.acdm_step.proofs.Steps.{comes_left, comes_show, comes_alerts, loading, migrating}
use Rattle.acdm_step.proofs.Steps.{on_err}
use Rattle.acdm_step.proofs.Planned.{planned_as, plans_load, plans_unload, plans_tick, fits_load}
use Rattle.acdm_step.proofs.Planned.{fits_unload, plans_migrate, fits_migrate}
use Rattle.acdm_step.proofs.state.Core.prepare.Goals as goal

pub returns-in_err-prepared-in-Load-clause-memory :
    goal.returns-in_err-prepared-in-Load-clause-memory
returns-in_err-prepared-in-Load-clause-memory g c =
    let b : Board = record { records = c.self.inside.flights; slots = c.self.inside.slots } in
    on_err c.from_residual.result
    (subst (λ (x : Board). (is_alerts c.args.command.now
    || board_loads x c.args.role c.args.command.now) ≡ true) c.self.view_is
    (subst (λ (x : Command). (is_alerts x || board_loads b c.args.role x) ≡ true)
    (sym c.in-Load.is) (loading b c.args.role c.in-Load.load
    c.in_err-prepared-in-Load.ensures.loading)))

pub returns-in_ok-prepared-in-Load-clause-comes : goal.returns-in_ok-prepared-in-Load-clause-comes
returns-in_ok-prepared-in-Load-clause-comes g c =
    let b : Board = record { records = c.self.inside.flights; slots = c.self.inside.slots } in
    let at : OracleView = g.O.Oracle.view c.args.oracle.now in
    let p = c.in_ok-prepared-in-Load.prepared in
    planned_as b c.args.self.now c.args.role c.args.moment _ c.args.command.now at at p.outcome
    p.change c.self.view_is c.in-Load.is
    (plans_load b c.args.role c.args.moment at at p.outcome (unasked at) c.in-Load.load p.change
    c.in_ok-prepared-in-Load.ensures.outcome c.in_ok-prepared-in-Load.ensures.change)

pub returns-in_ok-prepared-in-Load-clause-fits : goal.returns-in_ok-prepared-in-Load-clause-fits
returns-in_ok-prepared-in-Load-clause-fits g c =
    let b : Board = record { records = c.self.inside.flights; slots = c.self.inside.slots } in
    let p = c.in_ok-prepared-in-Load.prepared in
    subst (λ (x : Board). Fits x p.change) c.self.view_is
    (fits_load b c.in-Load.load (is_accepted
    (load_verdict (load_obstacle b.slots.sigs b.slots.record_length c.in-Load.load.program) c.args.role))
    p.change c.in_ok-prepared-in-Load.ensures.change c.in_ok-prepared-in-Load.ensures.long
    c.in_ok-prepared-in-Load.ensures.same)

pub returns-in-Unload-clause-comes : goal.returns-in-Unload-clause-comes
returns-in-Unload-clause-comes g c =
    let b : Board = record { records = c.self.inside.flights; slots = c.self.inside.slots } in
    let at : OracleView = g.O.Oracle.view c.args.oracle.now in
    let p = c.prepare_unload.result in
    planned_as b c.args.self.now c.args.role c.args.moment _ c.args.command.now at at p.outcome
    p.change c.self.view_is c.in-Unload.is
    (plans_unload b c.args.role c.args.moment at at p.outcome (unasked at) c.in-Unload.unload
    p.change c.prepare_unload.ensures.outcome c.prepare_unload.ensures.change)

pub returns-in-Unload-clause-fits : goal.returns-in-Unload-clause-fits
returns-in-Unload-clause-fits g c =
    let b : Board = record { records = c.self.inside.flights; slots = c.self.inside.slots } in
    subst (λ (x : Board). Fits x c.prepare_unload.result.change) c.self.view_is
    (fits_unload b c.in-Unload.unload c.args.role _ c.prepare_unload.result.change refl
    c.prepare_unload.ensures.change)

pub returns-in-Tick-clause-comes : goal.returns-in-Tick-clause-comes
returns-in-Tick-clause-comes g c =
    let b : Board = record { records = c.self.inside.flights; slots = c.self.inside.slots } in
    let at : OracleView = g.O.Oracle.view c.args.oracle.now in
    let p = c.prepare_tick.result in
    planned_as b c.args.self.now c.args.role c.args.moment _ c.args.command.now at at p.outcome
    p.change c.self.view_is c.in-Tick.is
    (plans_tick b c.args.role c.args.moment at at p.outcome (unasked at) p.change
    c.prepare_tick.ensures.outcome c.prepare_tick.ensures.change)

pub returns-in-Show-clause-comes : goal.returns-in-Show-clause-comes
returns-in-Show-clause-comes g c =
    let b : Board = record { records = c.self.inside.flights; slots = c.self.inside.slots } in
    let at : OracleView = g.O.Oracle.view c.args.oracle.now in
    comes_left b c.args.self.now c.args.role c.args.moment _ c.args.command.now at at c.show.result
    c.self.view_is c.in-Show.is
    (comes_show b c.args.role c.args.moment at at c.show.result (unasked at) c.in-Show.flight
    (rw c.get.ensures.value at c.show.ensures))

pub returns-in_ok-list-in-Alerts-clause-comes : goal.returns-in_ok-list-in-Alerts-clause-comes
returns-in_ok-list-in-Alerts-clause-comes g c =
    let b : Board = record { records = c.self.inside.flights; slots = c.self.inside.slots } in
    let at : OracleView = g.O.Oracle.view c.args.oracle.now in
    comes_left b c.args.self.now c.args.role c.args.moment _ c.args.command.now at at
    (outcomes.Listed c.in_ok-list-in-Alerts.list) c.self.view_is c.in-Alerts.is
    (comes_alerts b c.args.role c.args.moment at at (outcomes.Listed c.in_ok-list-in-Alerts.list)
    (unasked at) (ap outcomes.Listed c.in_ok-list-in-Alerts.ensures))

pub returns-in_err-prepared-in-Migrate-clause-memory :
    goal.returns-in_err-prepared-in-Migrate-clause-memory
returns-in_err-prepared-in-Migrate-clause-memory g c =
    let b : Board = record { records = c.self.inside.flights; slots = c.self.inside.slots } in
    on_err c.from_residual-in_err-prepared-in-Migrate.result
    (subst (λ (x : Board). (is_alerts c.args.command.now
    || board_loads x c.args.role c.args.command.now) ≡ true) c.self.view_is
    (subst (λ (x : Command). (is_alerts x || board_loads b c.args.role x) ≡ true)
    (sym c.in-Migrate.is) (migrating b c.args.role
    c.in_err-prepared-in-Migrate.ensures.migrating)))

pub returns-in_ok-prepared-in-Migrate-clause-comes :
    goal.returns-in_ok-prepared-in-Migrate-clause-comes
returns-in_ok-prepared-in-Migrate-clause-comes g c =
    let b : Board = record { records = c.self.inside.flights; slots = c.self.inside.slots } in
    let at : OracleView = g.O.Oracle.view c.args.oracle.now in
    let p = c.in_ok-prepared-in-Migrate.prepared in
    planned_as b c.args.self.now c.args.role c.args.moment _ c.args.command.now at at p.outcome
    p.change c.self.view_is c.in-Migrate.is
    (plans_migrate b c.args.role c.args.moment at at p.outcome (unasked at) p.change
    c.in_ok-prepared-in-Migrate.ensures.outcome c.in_ok-prepared-in-Migrate.ensures.change)

pub returns-in_ok-prepared-in-Migrate-clause-fits :
    goal.returns-in_ok-prepared-in-Migrate-clause-fits
returns-in_ok-prepared-in-Migrate-clause-fits g c =
    let b : Board = record { records = c.self.inside.flights; slots = c.self.inside.slots } in
    let p = c.in_ok-prepared-in-Migrate.prepared in
    subst (λ (x : Board). Fits x p.change) c.self.view_is
    (fits_migrate b (is_accepted
    (migrate_verdict (migrate_obstacle b.slots.record_length) c.args.role)) p.change
    c.in_ok-prepared-in-Migrate.ensures.change c.in_ok-prepared-in-Migrate.ensures.first)
