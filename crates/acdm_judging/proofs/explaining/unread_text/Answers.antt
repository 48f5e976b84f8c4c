use Rattle.std.proofs.Common.{rules}
use Rattle.acdm_judging.proofs.explaining.unread_text.Goals as goal

pub returns-in-Ok : goal.returns-in-Ok
returns-in-Ok c = (c.in_ok-why.why.bytes.items, search rules)
