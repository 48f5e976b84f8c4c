-- How many lines are taken in a minute. Moments are milliseconds.
use Rattle.std.specs.Prelude.{ℕ, ◌+◌, ◌-◌, ◌*◌, nat_le, Bool, min, max}
use Rattle.std.specs.Prelude.{if◌then◌else◌, List, [], ◌∷◌}

-- the whole credit: what so many lines cost
abbrev pub whole : ℕ → ℕ
whole most = most * 60000

-- The credit at a moment, where it was this at an earlier one. It grows by what so many lines cost in each
-- minute, and no further than what so many cost.
abbrev pub grown : ℕ → ℕ → ℕ → ℕ → ℕ
grown most credit counted now = min (credit + min (now - counted) 60000 * most) (most * 60000)

-- the later of two moments
abbrev pub latest : ℕ → ℕ → ℕ
latest counted now = max counted now

-- a line may be taken at a credit, and what is left of it then
abbrev pub admits : ℕ → Bool
admits credit = nat_le 60000 credit

abbrev pub spent : ℕ → ℕ
spent credit = if admits credit then credit - 60000 else credit

-- ---- over the moments at which lines were asked for, the newest first

-- the latest of these moments, of which the first is that at which it was begun
abbrev pub clock : ℕ → List ℕ → ℕ
clock start [] = start
clock start (t ∷ J) = latest (clock start J) t

-- the credit after lines were asked for at these moments
abbrev pub credit : ℕ → ℕ → List ℕ → ℕ
credit most start [] = whole most
credit most start (t ∷ J) = spent (grown most (credit most start J) (clock start J) t)

-- how many of them were taken
abbrev pub taken : ℕ → ℕ → List ℕ → ℕ
taken most start [] = 0
taken most start (t ∷ J) =
    (if admits (grown most (credit most start J) (clock start J) t) then 1 else 0) + taken most start J
