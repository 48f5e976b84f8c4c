use Rattle.std.proofs.Common.{◌≡◌, length}
use Rattle.acdm_tables.specs.Helpers.{same_pairs}
use Rattle.acdm_tables.proofs.tables.are_same.Given as goal

abbrev pub invariant-loop-first : goal.invariant-loop-first
invariant-loop-first l = same_pairs l.left l.right ≡ same_pairs l.one l.other

abbrev pub decreases-loop-first : goal.decreases-loop-first
decreases-loop-first l = length l.left
