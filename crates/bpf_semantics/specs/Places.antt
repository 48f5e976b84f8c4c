-- Places, as the code has them.
use Rattle.std.specs.Prelude.{◌≡◌, ℕ, ◌+◌, ◌≤◌}
use Rattle.bpf_semantics.specs.Machine as machine
use Rattle.bpf_semantics.specs.Machine.{InRecord, InStack}
use Rattle.bpf_semantics.specs.declared.place.MemoryPlace.{MemoryPlace}
use Rattle.bpf_semantics.specs.declared.place.MemoryPlace.TheVariants.{Record, Stack, Nowhere}

-- the place is this one, and so many bytes from it on lie in its region
abbrev pub PlaceIs : MemoryPlace → ℕ → ℕ → machine.Place → Type 0
PlaceIs (Record at) record_length count place = (place ≡ InRecord at) × (at + count ≤ record_length)
PlaceIs (Stack at) record_length count place = (place ≡ InStack at) × (at + count ≤ 512)
PlaceIs Nowhere record_length count place = place ≡ machine.Nowhere
