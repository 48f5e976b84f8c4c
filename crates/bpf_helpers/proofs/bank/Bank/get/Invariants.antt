use Rattle.std.proofs.Common.{◌≡◌, length, map}
use Rattle.bpf_helpers.specs.Promise.{signature_of}
use Rattle.bpf_helpers.specs.Helpers.{entries_of, entry_of}
use Rattle.bpf_helpers.proofs.bank.Bank.get.Given as goal

-- no helper that was passed by has the number, so those that are left decide
abbrev pub invariant-loop-helper : goal.invariant-loop-helper
invariant-loop-helper g l = signature_of (map entry_of l.rest) l.number
    ≡ signature_of (entries_of l.self) l.number

abbrev pub decreases-loop-helper : goal.decreases-loop-helper
decreases-loop-helper g l = length l.rest
