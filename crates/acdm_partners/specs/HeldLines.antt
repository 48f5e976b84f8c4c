-- Lines that wait to be written.
use Rattle.std.specs.Prelude.{ℕ, ◌≡◌, ◌≤◌, ◌+◌, nat_le, min, if◌then◌else◌, List, [], ◌++◌, length}
use Rattle.std.specs.Prelude.{String, string_bytes, string_capacity}
use Rattle.std.specs.declared.alloc.Global.{Global}

-- what waits, and how many lines were dropped since it was taken last
pub record HeldView : Type 0 where
  pub text : List ℕ
  pub dropped : ℕ

-- so many bytes are held at most
abbrev pub most_held : ℕ
most_held = 65536

-- a line is held where there is room for it; else it is dropped and counted
abbrev pub held_after : HeldView → List ℕ → HeldView
held_after h line = if nat_le (length h.text + length line) most_held
    then record { text = h.text ++ line; dropped = h.dropped }
    else record { text = h.text; dropped = min (h.dropped + 1) 18446744073709551615 }

-- a text without bytes, with the room for as many as are held
abbrev pub IsEmptyRoom : String Global → Type 0
IsEmptyRoom text = (string_bytes text ≡ []) × (most_held ≤ string_capacity text)
