use Rattle.std.proofs.Common.{◌<◌, ◌++◌, ◌∷◌, [], not, nat_lt, set, refl, ap, sym, ◌∙◌, subst}
use Rattle.std.proofs.Common.{arith}
use Rattle.acdm_record.specs.Fields.{length_of}
use Rattle.bpf_helpers.proofs.OracleLemmas.{unasked}
use Rattle.acdm_step.specs.declared.outcome.Outcome.TheVariants as outcomes
use Rattle.acdm_step.specs.Commands.{is_accepted}
use Rattle.acdm_step.specs.Verdicts.{verdict_for}
use Rattle.acdm_step.specs.Board.{board_of, obstacle_on, programs_on}
use Rattle.acdm_step.proofs.Steps.{flight_refused, flight_unanswered, flight_changed, put_there}
use Rattle.acdm_step.proofs.Steps.{put_absent, when_ok, when_err, no_lt}
use Rattle.acdm_step.proofs.Planned.{left_so, plans_nothing}
use Rattle.acdm_step.proofs.Numbers.{change_keeps, change_is_new, change_as_long, room_left}
use Rattle.acdm_step.proofs.Long.{long, length_on}
use Rattle.acdm_step.proofs.prepare.prepare_flight.Goals as goal
use Rattle.acdm_step.specs.declared.verdicts.TheConstants.{MOST_FLIGHTS}

pub returns-then-not-is_owner-clause-comes : goal.returns-then-not-is_owner-clause-comes
returns-then-not-is_owner-clause-comes g c =
    left_so (board_of c.args.flights.now c.args.slots.now) c.args.role c.args.moment
    c.args.command.now (g.O.Oracle.view c.args.oracle.now)
    (g.O.Oracle.view c.args.oracle.now) c.refused.result.outcome c.refused.result.change
    c.refused.ensures.change
    (plans_nothing (board_of c.args.flights.now c.args.slots.now) c.args.role c.args.moment
    (g.O.Oracle.view c.args.oracle.now) (g.O.Oracle.view c.args.oracle.now)
    c.refused.result.outcome (unasked _)
    c.args.command.now c.requires.changes (sym c.is_owner.ensures ∙ c.if-not-is_owner.true) c.refused.ensures.outcome)

pub returns-then-not-is_accepted-clause-comes : goal.returns-then-not-is_accepted-clause-comes
returns-then-not-is_accepted-clause-comes g c =
    flight_refused c.args.flights.now c.args.slots.now c.args.role
    c.args.command.now c.place-place.result c.flight_of_command-flight.result
    c.len-count.result c.place-place.ensures c.flight_of_command-flight.ensures
    c.len-count.ensures c.requires.changes
    c.record_at-record.result c.verdict-verdict.result
    (nat_lt c.place-place.result c.len-count.result) refl c.record_at-record.ensures
    c.verdict-verdict.ensures.value c.args.moment (g.O.Oracle.view c.args.oracle.now)
    (g.O.Oracle.view c.args.oracle.now) c.of.result
    (sym c.is_accepted.ensures ∙ c.if-not-is_accepted.true) (unasked _) c.of.ensures

pub returns-then-is_err-clause-comes : goal.returns-then-is_err-clause-comes
returns-then-is_err-clause-comes g c =
    left_so (board_of c.args.flights.now c.args.slots.now) c.args.role c.args.moment
    c.args.command.now (g.O.Oracle.view c.args.oracle.now)
    (g.O.Oracle.view c.change.new.oracle) c.refused-then-is_err.result.outcome
    c.refused-then-is_err.result.change c.refused-then-is_err.ensures.change
    (flight_unanswered c.args.flights.now c.args.slots.now c.args.role
    c.args.command.now c.place-place.result c.flight_of_command-flight.result
    c.len-count.result c.place-place.ensures c.flight_of_command-flight.ensures
    c.len-count.ensures c.requires.changes
    c.record_at-record.result c.verdict-verdict.result
    (nat_lt c.place-place.result c.len-count.result) refl c.record_at-record.ensures
    c.verdict-verdict.ensures.value c.args.moment (g.O.Oracle.view c.args.oracle.now)
    (g.O.Oracle.view c.change.new.oracle) c.refused-then-is_err.result.outcome
    (sym c.is_accepted.ensures ∙ c.if-not-is_accepted.false) c.refused-then-is_err.ensures.outcome
    c.args.flights.now refl (when_err c.change.result (c.is_err.ensures.negation
    ∙ ap not c.if-is_err.true) c.change.ensures.unanswered))

pub returns-then-place-count-clause-comes : goal.returns-then-place-count-clause-comes
returns-then-place-count-clause-comes g c =
    flight_changed c.args.flights.now c.args.slots.now c.args.role
    c.args.command.now c.place-place.result c.flight_of_command-flight.result
    c.len-count.result c.place-place.ensures c.flight_of_command-flight.ensures
    c.len-count.ensures c.requires.changes
    c.record_at-record.result c.verdict-verdict.result
    (nat_lt c.place-place.result c.len-count.result) refl c.record_at-record.ensures
    c.verdict-verdict.ensures.value c.args.moment (g.O.Oracle.view c.args.oracle.now)
    (g.O.Oracle.view c.change.new.oracle) outcomes.Done
    (sym c.is_accepted.ensures ∙ c.if-not-is_accepted.false) refl c.change.new.record _
    (when_ok c.change.result (c.is_err.ensures.negation
    ∙ ap not c.if-is_err.false) c.change.ensures.changed)
    (put_there c.args.flights.now c.args.slots.now c.args.role c.args.command.now
    c.place-place.result c.flight_of_command-flight.result c.len-count.result
    c.place-place.ensures c.flight_of_command-flight.ensures c.len-count.ensures c.requires.changes
    c.change.new.record (set c.args.flights.now c.place-place.result c.change.new.record)
    c.if-place-count.true refl)

pub returns-then-place-count-clause-fits : goal.returns-then-place-count-clause-fits
returns-then-place-count-clause-fits g c = (
  subst (λ n. c.place-place.result < n) c.len-count.ensures c.if-place-count.true,
  change_keeps (board_of c.args.flights.now c.args.slots.now)
      (programs_on c.args.slots.now c.args.command.now) c.args.moment
      c.args.command.now (g.O.Oracle.view c.args.oracle.now)
      (g.O.Oracle.view c.change.new.oracle) c.flight_of_command-flight.result c.place-place.result
      c.record_at-record.result c.change.new.record c.place-place.ensures c.record_at-record.ensures
      (when_ok c.change.result (c.is_err.ensures.negation
      ∙ ap not c.if-is_err.false) c.change.ensures.changed)
      (subst (λ n. c.place-place.result < n) c.len-count.ensures c.if-place-count.true),
  long c.args.slots.now.record_length c.change.new.record
      (change_as_long (board_of c.args.flights.now c.args.slots.now)
      (programs_on c.args.slots.now c.args.command.now) c.args.moment
      c.args.command.now (g.O.Oracle.view c.args.oracle.now)
      (g.O.Oracle.view c.change.new.oracle) c.flight_of_command-flight.result c.place-place.result
      c.record_at-record.result c.change.new.record c.place-place.ensures c.record_at-record.ensures
      (when_ok c.change.result (c.is_err.ensures.negation
      ∙ ap not c.if-is_err.false) c.change.ensures.changed)
      ∙ length_on (board_of c.args.flights.now c.args.slots.now)
      c.flight_of_command-flight.result c.requires.as_long),
)

pub returns-else-place-count-clause-comes : goal.returns-else-place-count-clause-comes
returns-else-place-count-clause-comes g c =
    flight_changed c.args.flights.now c.args.slots.now c.args.role
    c.args.command.now c.place-place.result c.flight_of_command-flight.result
    c.len-count.result c.place-place.ensures c.flight_of_command-flight.ensures
    c.len-count.ensures c.requires.changes
    c.record_at-record.result c.verdict-verdict.result
    (nat_lt c.place-place.result c.len-count.result) refl c.record_at-record.ensures
    c.verdict-verdict.ensures.value c.args.moment (g.O.Oracle.view c.args.oracle.now)
    (g.O.Oracle.view c.change.new.oracle) outcomes.Done
    (sym c.is_accepted.ensures ∙ c.if-not-is_accepted.false) refl c.change.new.record _
    (when_ok c.change.result (c.is_err.ensures.negation
    ∙ ap not c.if-is_err.false) c.change.ensures.changed)
    (put_absent c.args.flights.now c.args.slots.now c.args.role c.args.command.now
    c.place-place.result c.flight_of_command-flight.result c.len-count.result
    c.place-place.ensures c.flight_of_command-flight.ensures c.len-count.ensures c.requires.changes
    c.change.new.record (c.args.flights.now ++ c.change.new.record ∷ []) c.if-place-count.false
    refl)

pub returns-else-place-count-clause-fits : goal.returns-else-place-count-clause-fits
returns-else-place-count-clause-fits g c = (
  subst (λ n. n < MOST_FLIGHTS) c.len-count.ensures
      (room_left c.args.command.now c.len-count.result c.record_at-record.result
      (obstacle_on c.args.slots.now c.args.command.now) c.args.role c.requires.changes
      (ap (λ t. is_accepted (verdict_for t c.len-count.result c.record_at-record.result
      (obstacle_on c.args.slots.now c.args.command.now) c.args.role
      c.args.command.now))
      (sym (no_lt c.place-place.result c.len-count.result c.if-place-count.false))
      ∙ sym (ap is_accepted c.verdict-verdict.ensures.value) ∙ sym c.is_accepted.ensures
      ∙ c.if-not-is_accepted.false)),
  change_is_new (board_of c.args.flights.now c.args.slots.now)
      (programs_on c.args.slots.now c.args.command.now) c.args.moment
      c.args.command.now (g.O.Oracle.view c.args.oracle.now)
      (g.O.Oracle.view c.change.new.oracle) c.flight_of_command-flight.result c.place-place.result
      c.record_at-record.result c.change.new.record c.place-place.ensures c.record_at-record.ensures
      (when_ok c.change.result (c.is_err.ensures.negation
      ∙ ap not c.if-is_err.false) c.change.ensures.changed)
      (omega (arith, c.len-count.ensures, c.if-place-count.false)),
  long c.args.slots.now.record_length c.change.new.record
      (change_as_long (board_of c.args.flights.now c.args.slots.now)
      (programs_on c.args.slots.now c.args.command.now) c.args.moment
      c.args.command.now (g.O.Oracle.view c.args.oracle.now)
      (g.O.Oracle.view c.change.new.oracle) c.flight_of_command-flight.result c.place-place.result
      c.record_at-record.result c.change.new.record c.place-place.ensures c.record_at-record.ensures
      (when_ok c.change.result (c.is_err.ensures.negation
      ∙ ap not c.if-is_err.false) c.change.ensures.changed)
      ∙ length_on (board_of c.args.flights.now c.args.slots.now)
      c.flight_of_command-flight.result c.requires.as_long),
)

-- the record has the length of which its programs were told
pub change-requires-clause-long : goal.change-requires-clause-long
change-requires-clause-long g c =
    ap length_of c.record_at-record.ensures
    ∙ length_on (board_of c.args.flights.now c.args.slots.now) c.flight_of_command-flight.result
    c.requires.as_long

-- the tests of a verdict look at a record of the board's length
pub verdict-verdict-requires : goal.verdict-verdict-requires
verdict-verdict-requires g c = record {
  changes = c.requires.changes;
  long = ap length_of c.record_at-record.ensures
      ∙ length_on (board_of c.args.flights.now c.args.slots.now) c.flight_of_command-flight.result
      c.requires.as_long;
}
