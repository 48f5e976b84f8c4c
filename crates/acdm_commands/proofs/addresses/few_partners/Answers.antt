use Rattle.acdm_commands.proofs.Failing.{unseated}
use Rattle.acdm_commands.proofs.addresses.few_partners.Goals as goal

pub returns-in-Err-clause-fails : goal.returns-in-Err-clause-fails
returns-in-Err-clause-fails g c = unseated _ _ c.in-Err.failure c.in-Err.ensures.fails
