-- Marks as the bits of words.
use Rattle.std.specs.Prelude.{ℕ, ◌/◌, ◌%◌, ◌==◌, List, Bool, map, slice_index_or}
use Rattle.std.specs.Int.{bit_at}
use Rattle.std.specs.List.{range_with_len}

-- byte p is bit p % 64 of word p / 64
abbrev pub is_marked : List ℕ → ℕ → Bool
is_marked words p = bit_at (slice_index_or words (p / 64) 0) (p % 64) == 1

-- the marks of the 512 bytes of the stack
unfoldable pub marks_of : List ℕ → List Bool
marks_of words = map (is_marked words) (range_with_len 0 512)
