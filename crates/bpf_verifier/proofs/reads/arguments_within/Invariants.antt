use Rattle.std.proofs.Common.{◌≡◌, ◌≤◌, ◌+◌, length}
use Rattle.bpf_regstate.specs.Faults.{arguments_within}
use Rattle.bpf_verifier.proofs.reads.arguments_within.Given as goal

-- the registers before this one lie in their ranges
abbrev pub invariant-loop-range : goal.invariant-loop-range
invariant-loop-range l = record {
  same : arguments_within l.state l.rest l.number ≡ arguments_within l.state l.args 1;
  few : l.number + length l.rest ≤ 6;
}

abbrev pub decreases-loop-range : goal.decreases-loop-range
decreases-loop-range l = length l.rest
