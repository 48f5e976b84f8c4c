-- The ticks that a board gives itself.
use Rattle.std.specs.Prelude.{ℕ, ◌≡◌, ◌+◌, ◌-◌, ◌≤◌, ◌⊎◌, Bool, true, if◌then◌else◌, nat_lt}
use Rattle.std.specs.Prelude.{List, [], ◌∷◌, ◌++◌, codes, length, take, drop}

-- the line of a tick, of 15 bytes
abbrev pub tick_line : List ℕ
tick_line = codes "{\"cmd\":\"tick\"}" ++ 10 ∷ []

-- so many ticks were due, and whether it is known that no more come; so many bytes of the line of the last one are
-- not given yet
pub record TicksView : Type 0 where
  pub due : ℕ
  pub is_over : Bool
  pub left : ℕ

abbrev pub fewer : ℕ → ℕ → ℕ
fewer a b = if nat_lt b a then b else a

-- the next bytes of the line in hand were given, as many as there are and as there is room for
pub record GoesOnBy (room : ℕ) (before after : TicksView) (bytes : List ℕ) : Type 0 where
  pub due : after.due ≡ before.due
  pub is_over : after.is_over ≡ before.is_over
  pub count : length bytes ≡ fewer before.left room
  pub left : after.left + length bytes ≡ before.left
  pub given : bytes ≡ take (length bytes) (drop (15 - before.left) tick_line)

abbrev pub with_next : TicksView → TicksView
with_next before = record { due = before.due + 1; is_over = before.is_over; left = 15 }

abbrev pub at_end : TicksView → TicksView
at_end before = record { due = before.due; is_over = true; left = before.left }

-- What a read gives, where there is room: bytes of the line in hand; or, where none is, the first bytes of the line of
-- one tick that has become due, and nothing only where no more come.
abbrev pub GivesTicks : ℕ → TicksView → TicksView → List ℕ → Type 0
GivesTicks room before after bytes =
    ((1 ≤ before.left) × GoesOnBy room before after bytes)
    ⊎ (((before.left ≡ 0) × GoesOnBy room (with_next before) after bytes)
    ⊎ ((before.left ≡ 0) × (after ≡ at_end before) × (bytes ≡ [])))
