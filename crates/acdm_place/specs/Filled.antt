-- How full a room is, told as it fills.
use Rattle.std.specs.Prelude.{ℕ, ◌+◌, ◌*◌, ◌<◌, ◌≤◌, nat_le, Bool, false, ◌||◌}
use Rattle.std.specs.Prelude.{if◌then◌else◌, List, [], ◌∷◌}

-- so many of a room are so many per cent of it, or more
abbrev pub reaches : ℕ → ℕ → ℕ → Bool
reaches room percent used = nat_le (room * percent) (used * 100)

-- a level is told: so many reach it, and it was not told before
abbrev pub tells : Bool → Bool → Bool
tells before reached = if before then false else reached

-- ---- over what was used at each look, the newest first

-- the level was told
abbrev pub was_told : ℕ → ℕ → List ℕ → Bool
was_told room percent [] = false
was_told room percent (u ∷ J) = was_told room percent J || reaches room percent u

-- the level is told where so many are used behind these
abbrev pub told_at : ℕ → ℕ → List ℕ → ℕ → Bool
told_at room percent J u = tells (was_told room percent J) (reaches room percent u)

-- how often it was told
abbrev pub times_told : ℕ → ℕ → List ℕ → ℕ
times_told room percent [] = 0
times_told room percent (u ∷ J) =
    (if told_at room percent J u then 1 else 0) + times_told room percent J

-- so many of the room are so many per cent of it, or more: without a division, so nothing is rounded
abbrev pub Reaches : ℕ → ℕ → ℕ → Type 0
Reaches room percent u = room * percent ≤ u * 100

-- none of these was as much
abbrev pub NoneReaches : ℕ → ℕ → List ℕ → Type 0
NoneReaches room percent [] = Unit {0}
NoneReaches room percent (u ∷ J) = (u * 100 < room * percent) × NoneReaches room percent J
