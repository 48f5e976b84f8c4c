-- Minutes of the system's clock, at the ends of their range and beside them.
use Rattle.std.proofs.Common.{◌≡◌, Some, None, refl}
use Rattle.acdm_commands.specs.Minutes.{minute_in}

-- the last nanosecond of minute 0, which is no minute, and the first one after it
before : minute_in 59999999999 ≡ None
before = refl

first : minute_in 60000000000 ≡ Some 1
first = refl

-- the last nanosecond of minute 1
still : minute_in 119999999999 ≡ Some 1
still = refl

-- 2025-02-20T07:00:00Z
morning : minute_in 1740034800000000000 ≡ Some 29000580
morning = refl

-- the last nanosecond of the greatest minute that 32 bits hold, and the first one after it
last : minute_in 257698037759999999999 ≡ Some 4294967295
last = refl

past : minute_in 257698037760000000000 ≡ None
past = refl
