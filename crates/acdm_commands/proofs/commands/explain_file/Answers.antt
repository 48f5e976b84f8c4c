use Rattle.std.proofs.Common.{ap}
use Rattle.acdm_commands.proofs.Files.{explained_line}
use Rattle.acdm_commands.proofs.commands.explain_file.Goals as goal

pub returns-in-Ok : goal.returns-in-Ok
returns-in-Ok g c =
    explained_line _ _ _ c.new.result c.explain_on.new.reader _ _ _ _ _
    (ap (λ s. s.log) c.new.ensures, ap (λ s. s.faults) c.new.ensures, ap (λ s. s.ended) c.new.ensures)
    c.explain_on.ensures
