use Rattle.std.proofs.Common.{◌≡◌, length}
use Rattle.bpf_helpers.specs.Promise.{are_in}
use Rattle.bpf_helpers.proofs.signature.are_in.Given as goal

-- the arguments passed by lie in their ranges, so those that are left decide
abbrev pub invariant-loop-range : goal.invariant-loop-range
invariant-loop-range l = are_in l.ranges l.arguments ≡ are_in l.fn.ranges l.fn.arguments

abbrev pub decreases-loop-range : goal.decreases-loop-range
decreases-loop-range l = length l.ranges
