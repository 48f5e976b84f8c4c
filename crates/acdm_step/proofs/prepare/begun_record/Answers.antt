use Rattle.std.proofs.Common.{ap, sym, ◌∙◌}
use Rattle.acdm_record.specs.Fields.{migrated}
use Rattle.acdm_step.specs.Board.{begun}
use Rattle.acdm_step.proofs.Long.{begun_first}
use Rattle.acdm_step.proofs.prepare.begun_record.Goals as goal

pub returns-then-is : goal.returns-then-is
returns-then-is c =
    c.migrate.ensures ∙ ap migrated c.new-record.ensures
    ∙ ap (λ l. begun l c.args.flight) (sym (c.is.ensures.same.0 c.if-is.true))

pub returns-else-is : goal.returns-else-is
returns-else-is c =
    c.new-record.ensures ∙ begun_first c.args.record_length c.args.flight
    (sym c.is.ensures.value ∙ c.if-is.false)
