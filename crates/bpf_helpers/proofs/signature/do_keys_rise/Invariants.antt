use Rattle.std.proofs.Common.{◌≡◌, length}
use Rattle.bpf_helpers.specs.Promise.{do_keys_rise}
use Rattle.bpf_helpers.proofs.signature.do_keys_rise.Given as goal

-- the keys passed by rise, so those that are left decide
abbrev pub invariant-loop-entry : goal.invariant-loop-entry
invariant-loop-entry l = do_keys_rise l.rest ≡ do_keys_rise l.fn.table

abbrev pub decreases-loop-entry : goal.decreases-loop-entry
decreases-loop-entry l = length l.rest
