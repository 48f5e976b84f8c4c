use Rattle.std.proofs.Common.{◌≡◌, length}
use Rattle.bpf_helpers.specs.Promise.{signature_of}
use Rattle.bpf_helpers.proofs.sigs.Sigs.get.Given as goal

-- no entry that was passed by has the number, so those that are left decide
abbrev pub invariant-loop-entry : goal.invariant-loop-entry
invariant-loop-entry l = signature_of l.rest l.number ≡ signature_of l.self l.number

abbrev pub decreases-loop-entry : goal.decreases-loop-entry
decreases-loop-entry l = length l.rest
