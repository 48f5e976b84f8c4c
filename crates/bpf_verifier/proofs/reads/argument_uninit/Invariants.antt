use Rattle.std.proofs.Common.{◌≡◌, ◌≤◌, ◌+◌, length}
use Rattle.bpf_regstate.specs.Faults.{argument_uninit}
use Rattle.bpf_verifier.proofs.reads.argument_uninit.Given as goal

-- the registers before this one are all there
abbrev pub invariant-loop-more : goal.invariant-loop-more
invariant-loop-more l = record {
  same : argument_uninit l.state l.rest l.number ≡ argument_uninit l.state l.args 1;
  few : l.number + length l.rest ≤ 6;
}

abbrev pub decreases-loop-more : goal.decreases-loop-more
decreases-loop-more l = length l.rest
