-- What contracts see of an embeddable machine: the helpers that are registered, and the program
-- that is set (this project's profile).
use Rattle.std.specs.Prelude.{ℕ, List, Option, IsSome, IsNone, option_map}
use Rattle.bpf_decode.specs.declared.op.Op.{Op}
use Rattle.bpf_helpers.specs.Promise.{Promise}
use Rattle.bpf_regstate.specs.declared.length.Length.{Length}
use Rattle.bpf_machine.specs.Registry.{entries_in}
use Rattle.bpf_machine.specs.declared.vm.EbpfVmRaw.{EbpfVmRaw}

-- the numbers and the promises of the helpers that are registered, in the order in which they were
abbrev pub helpers_of : {V : _} {F : _} {m : _} → EbpfVmRaw V F m → List (ℕ × Promise)
helpers_of vm = entries_in vm.registry

-- the program that is set
abbrev pub program_of : {V : _} {F : _} {m : _} → EbpfVmRaw V F m → Option (List Op)
program_of vm = option_map (λ checked. checked.ops) vm.checked

-- how long the record is beside which it runs
abbrev pub record_length_of : {V : _} {F : _} {m : _} → EbpfVmRaw V F m → Option Length
record_length_of vm = option_map (λ checked. checked.record_length) vm.checked

abbrev pub HasProgram : {V : _} {F : _} {m : _} → EbpfVmRaw V F m → Type 0
HasProgram vm = IsSome (program_of vm)

abbrev pub HasNoProgram : {V : _} {F : _} {m : _} → EbpfVmRaw V F m → Type 0
HasNoProgram vm = IsNone (program_of vm)
