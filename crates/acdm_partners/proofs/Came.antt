-- The first bytes of a line.
use Rattle.std.proofs.Common.{◌≡◌, min, ℕ, List, length, take}
use Rattle.std.proofs.lemmas.List.{take_min}

-- as many as there are, where there are fewer
pub first_bytes : (most : ℕ) (line : List ℕ) → take (min most (length line)) line ≡ take most line
first_bytes = take_min
