use Rattle.std.proofs.Common.{Err, inr, is_some, option_map, refl}
use Rattle.acdm_commands.proofs.Files.{ran_line}
use Rattle.acdm_commands.proofs.run_command.run_command.Goals as goal

pub returns-in-Ok : goal.returns-in-Ok
returns-in-Ok g c =
    let path = option_map (λ s. s.now) c.args.files.save in
    ran_line _ c.args.setup.capacity path (is_some c.args.files.keep) c.in-Ok.saving.file c.run_saving-work.new.saved
    _ _ _ _ _ _ _ _ _ c.in-Ok.ensures.made c.run_saving-work.ensures c.settle.ensures c.ended.ensures

pub returns-in-Err : goal.returns-in-Err
returns-in-Err g c = record {
  work = Err c.in-Err.failure;
  comes = inr (c.in-Err.ensures.fails, (refl, refl));
  ends = c.ended-in-Err.ensures;
}
