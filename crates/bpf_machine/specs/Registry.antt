-- The helpers of an embeddable machine: their numbers and promises (this project's profile).
use Rattle.std.specs.Prelude.{ℕ, ◌≤◌, ◌<◌, List, length, map, IsSome, IsNone}
use Rattle.bpf_helpers.specs.declared.helper.Helper.{Helper}
use Rattle.bpf_helpers.specs.Helpers.{entry_of}
use Rattle.bpf_helpers.specs.Promise.{Promise, signature_of}
use Rattle.bpf_machine.specs.declared.registry.Registry.{Registry}

-- the numbers and the promises of the helpers, in the order in which they were added
abbrev pub entries_in : {V : _} {F : _} {m : _} → Registry V F m → List (ℕ × Promise)
entries_in registry = map entry_of registry.helpers.items

-- a helper has the number of this one
abbrev pub IsTaken : {V : _} {F : _} {m : _} → Registry V F m → Helper V F m → Type 0
IsTaken registry helper = IsSome (signature_of (entries_in registry) (entry_of helper).0)

-- no helper has the number of this one
abbrev pub IsFree : {V : _} {F : _} {m : _} → Registry V F m → Helper V F m → Type 0
IsFree registry helper = IsNone (signature_of (entries_in registry) (entry_of helper).0)

-- there are 32 helpers
abbrev pub IsFull : {V : _} {F : _} {m : _} → Registry V F m → Type 0
IsFull registry = 32 ≤ length (entries_in registry)

-- there is room for one more helper
abbrev pub HasRoom : {V : _} {F : _} {m : _} → Registry V F m → Type 0
HasRoom registry = length (entries_in registry) < 32
