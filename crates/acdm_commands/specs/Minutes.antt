-- The minute of a moment of the system's clock.
use Rattle.std.specs.Prelude.{ℕ, ◌/◌, ◌&&◌, Bool, nat_lt, if◌then◌else◌, Option, Some, None}

-- a minute since 1970-01-01T00:00Z that 32 bits hold, from 1
abbrev pub is_minute : ℕ → Bool
is_minute m = nat_lt 0 m && nat_lt m 4294967296

-- the whole minutes of so many nanoseconds, if they are such a minute
abbrev pub minute_in : ℕ → Option ℕ
minute_in nanoseconds =
    if is_minute (nanoseconds / 60000000000) then Some (nanoseconds / 60000000000) else None
