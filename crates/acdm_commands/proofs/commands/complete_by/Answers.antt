use Rattle.std.proofs.Common.{refl}
use Rattle.acdm_commands.proofs.Done.{done_as}
use Rattle.acdm_commands.proofs.commands.complete_by.Goals as goal

pub returns-in-Explain : goal.returns-in-Explain
returns-in-Explain g c = done_as _ _ _ _ _ _ _ _ _ _ c.in-Explain.is (refl, c.explain_file.ensures)
