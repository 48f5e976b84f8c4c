use Rattle.std.proofs.Common.{◌≡◌, ◌↔◌, length}
use Rattle.bpf_helpers.proofs.sigs.Sigs.is_same.Given as goal

-- the entries that were passed by are the same, so those that are left decide
abbrev pub invariant-loop-entry : goal.invariant-loop-entry
invariant-loop-entry l = (l.left ≡ l.right) ↔ (l.self ≡ l.other)

abbrev pub decreases-loop-entry : goal.decreases-loop-entry
decreases-loop-entry l = length l.left
