use Rattle.bpf_verifier.proofs.PassLemmas.{Passed}
use Rattle.bpf_verifier.proofs.verifier.first_fault.Given as goal

-- what waits is that of the pass before this slot
abbrev pub invariant-loop-slot : goal.invariant-loop-slot
invariant-loop-slot l = Passed l.record_length l.ops l.sigs l.slot l.waiting
