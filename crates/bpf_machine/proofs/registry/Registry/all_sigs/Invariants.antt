use Rattle.std.proofs.Common.{◌≡◌, map, take}
use Rattle.bpf_helpers.specs.Helpers.{entry_of}
use Rattle.bpf_machine.proofs.registry.Registry.all_sigs.Given as goal

-- the helpers that were passed by are there
abbrev pub invariant-loop-helper : goal.invariant-loop-helper
invariant-loop-helper g l = l.sigs ≡ map entry_of (take l.helper-index l.self.helpers.items)
