use Rattle.std.proofs.Common.{◌≡◌, take}
use Rattle.bpf_helpers.proofs.sigs.Sigs.copy.Given as goal

-- the entries that were passed by are there
abbrev pub invariant-loop-entry : goal.invariant-loop-entry
invariant-loop-entry l = l.sigs ≡ take l.entry-index l.entry-items
