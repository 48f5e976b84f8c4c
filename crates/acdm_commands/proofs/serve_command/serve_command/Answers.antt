use Rattle.std.proofs.Common.{Err, inr, is_some, option_map, refl, subst}
use Rattle.acdm_tables.specs.Helpers.{helpers_by}
use Rattle.acdm_commands.specs.Keeping.{FailsToBegin}
use Rattle.acdm_commands.specs.Partners.{named_of}
use Rattle.acdm_commands.proofs.Files.{served_line}
use Rattle.acdm_commands.proofs.Told.{not_begun, serves_begun, told_illegal}
use Rattle.acdm_commands.proofs.serve_command.serve_command.Goals as goal
use Rattle.acdm_commands.proofs.serve_command.serve_command.Goals.{in-Ok-begin, in-Err-Illegal, in-Err-Failed}

pub returns-after-begin : goal.returns-after-begin
returns-after-begin g c =
    let path = option_map (λ s. s.now) c.args.request.now.files.save in
    let sigs = helpers_by c.args.setup.tables in
    let kept = is_some c.args.request.now.files.keep in
    let named = named_of c.args.request.now in
    served_line sigs c.args.setup.capacity path kept named c.in-Ok.saving.file c.match-begin.saving.file
    c.args.output.now c.match-begin.output c.match-begin.work _ _ _ _ c.in-Ok.ensures.made
    (elim c.match-begin.branch [
      | in-Ok-begin w ↦
          rw (w.output-is, w.saving-is, w.work-is)
          (serves_begun sigs c.args.setup.capacity kept named c.args.output.now w.serve_desk-work.new.output
          c.in-Ok.saving.file w.serve_desk-work.new.saved (is_some w.in-Ok-begin.begun.keeper)
          w.in-Ok-begin.begun.desk w.serve_desk-work.result w.in-Ok-begin.ensures.kept
          w.in-Ok-begin.ensures.begins w.serve_desk-work.ensures)
      | in-Err-Illegal w ↦
          rw (w.output-is, w.saving-is, w.work-is)
          (told_illegal sigs c.args.setup.capacity kept named c.args.output.now w.tell-work.new.writer
          c.in-Ok.saving.file c.in-Ok.saving.file w.in-Err-Illegal.finding w.tell-work.result
          (subst (FailsToBegin kept named.peered) w.in-Err-Illegal.field-0-is w.in-Err-Illegal.ensures.fails)
          w.tell-work.ensures)
      | in-Err-Failed w ↦
          rw (w.output-is, w.saving-is, w.work-is)
          (not_begun sigs c.args.setup.capacity kept named c.args.output.now c.in-Ok.saving.file
          w.in-Err-Failed.failure (subst (FailsToBegin kept named.peered) w.in-Err-Failed.field-0-is w.in-Err-Failed.ensures.fails))
    ]) c.settle.ensures c.ended.ensures

pub returns-in-Err : goal.returns-in-Err
returns-in-Err g c = record {
  work = Err c.in-Err.failure;
  comes = inr (c.in-Err.ensures.fails, refl);
  ends = c.ended-in-Err.ensures;
}
