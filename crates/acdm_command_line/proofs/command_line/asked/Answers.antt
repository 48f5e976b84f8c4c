use Rattle.std.proofs.Common.{◌∙◌}
use Rattle.acdm_command_line.proofs.command_line.asked.Goals as goal

pub returns-in-Err-clause-refuses : goal.returns-in-Err-clause-refuses
returns-in-Err-clause-refuses g c = λ right. c.kind.ensures ∙ c.in-Err.ensures.refuses right
