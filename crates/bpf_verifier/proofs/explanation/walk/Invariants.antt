use Rattle.std.proofs.Common.{◌≡◌}
use Rattle.bpf_regstate.specs.States.{states}
use Rattle.bpf_verifier.proofs.PassLemmas.{Passed}
use Rattle.bpf_verifier.proofs.explanation.walk.Given as goal

-- what waits is that of the pass before this slot, and what is known are the states before it
abbrev pub invariant-loop-slot : goal.invariant-loop-slot
invariant-loop-slot l = Passed l.record_length l.ops l.sigs l.slot l.waiting
    × (l.known.items ≡ states l.record_length l.ops l.sigs l.slot)
