-- The text of a minute, as an instant of RFC 3339 in UTC.
use Rattle.std.specs.Prelude.{ℕ, ◌+◌, ◌-◌, ◌*◌, ◌/◌, ◌%◌, nat_lt, if◌then◌else◌, List, [], ◌∷◌, ◌++◌}
use Rattle.std.specs.Prelude.{codes}
use Rattle.std.specs.Fmt.{decimal}

-- The Gregorian calendar in eras of 400 years, 146,097 days, with years that begin on 1 March: so
-- the day of a leap year that others lack is the last of its year.

-- days since 0000-03-01 at so many days since 1970-01-01
abbrev pub march_day : ℕ → ℕ
march_day day = day + 719468

-- the year of an era, 0 to 399, on its day, 0 to 146,096
abbrev pub year_of_era : ℕ → ℕ
year_of_era d = (d - d / 1460 + d / 36524 - d / 146096) / 365

-- the day of a year of an era, 0 to 365
abbrev pub day_of_year : ℕ → ℕ → ℕ
day_of_year d y = d - (365 * y + y / 4 - y / 100)

-- the month of a day of the year, 0 for March to 11 for February
abbrev pub march_month : ℕ → ℕ
march_month d = (5 * d + 2) / 153

abbrev pub month_number : ℕ → ℕ
month_number m = if nat_lt m 10 then m + 3 else m - 9

abbrev pub day_number : ℕ → ℕ → ℕ
day_number d m = d - (153 * m + 2) / 5 + 1

-- January and February are in the calendar's next year
abbrev pub year_number : ℕ → ℕ → ℕ → ℕ
year_number era y m = 400 * era + y + (if nat_lt m 10 then 0 else 1)

-- a number below 100 in two digits
abbrev pub two_digits : ℕ → List ℕ
two_digits n = (48 + n / 10) ∷ (48 + n % 10) ∷ []

-- the date with this day of the year, of this year of this era
abbrev pub date_text : ℕ → ℕ → ℕ → List ℕ
date_text era y d = decimal (year_number era y (march_month d))
    ++ (45 ∷ two_digits (month_number (march_month d))
    ++ (45 ∷ two_digits (day_number d (march_month d))))

abbrev pub date_in_era : ℕ → ℕ → List ℕ
date_in_era era d = date_text era (year_of_era d) (day_of_year d (year_of_era d))

-- the date so many days after 1970-01-01
abbrev pub day_text : ℕ → List ℕ
day_text day = date_in_era (march_day day / 146097) (march_day day % 146097)

-- the time of day, with its seconds
abbrev pub clock_text : ℕ → List ℕ
clock_text minute = 84 ∷ (two_digits (minute / 60) ++ (58 ∷ (two_digits (minute % 60) ++ codes ":00Z")))

-- `2025-02-20T07:00:00Z`; a year after 9999 has five digits
unfoldable pub minute_text : ℕ → List ℕ
minute_text minute = day_text (minute / 1440) ++ clock_text (minute % 1440)
