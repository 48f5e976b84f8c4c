use Rattle.std.proofs.Common.{rules}
use Rattle.acdm_keeping.proofs.Copied.{copied_more}
use Rattle.acdm_keeping.proofs.copying.copy_bytes.Goals as goal

pub loop-preserved : goal.loop-preserved
loop-preserved g c =
    copied_more _ _ _ _ _ _ _ _ _ c.loop.invariant c.in_ok-count.ensures.copies
    (search rules)
