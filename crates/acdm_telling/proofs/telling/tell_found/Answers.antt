use Rattle.std.proofs.Common.{refl}
use Rattle.acdm_telling.specs.Told.{told_of}
use Rattle.acdm_telling.proofs.Gathered.{in_longer, tells_fault}
use Rattle.acdm_telling.proofs.telling.tell_found.Goals as goal

pub returns-in-Err : goal.returns-in-Err
returns-in-Err g c = (
  in_longer c.args.writer.now c.write_out.new.writer c.args.text.now (told_of c.args.finding) _
      c.in-Err.ensures.writes,
  refl,
)

pub returns-in-Faulty : goal.returns-in-Faulty
returns-in-Faulty g c =
    tells_fault c.args.writer.now c.write_out.new.writer c.tell.new.writer c.args.text.now
    c.in-Ok.ensures.writes c.args.finding c.in-Faulty.entry c.in-Faulty.clause c.tell.result
    c.in-Faulty.is c.tell.ensures
