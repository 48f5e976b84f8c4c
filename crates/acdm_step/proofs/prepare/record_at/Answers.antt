use Rattle.std.proofs.Common.{sym, ap, ◌∙◌, arith}
use Rattle.std.proofs.lemmas.List.{get_or_past}
use Rattle.acdm_step.specs.Board.{begun, place_of}
use Rattle.acdm_step.proofs.prepare.record_at.Goals as goal

pub returns-else-place-len : goal.returns-else-place-len
returns-else-place-len c =
    c.begun_record.ensures ∙ ap (λ l. begun l c.args.flight) c.record_length.ensures
    ∙ sym (get_or_past c.args.flights.now (place_of c.args.flights.now c.args.flight)
    (begun c.args.slots.now.record_length c.args.flight)
    (omega (arith, c.requires, c.len.ensures, c.if-place-len.false)))
