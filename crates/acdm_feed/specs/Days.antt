-- A day with its date as text.
use Rattle.std.specs.Prelude.{ℕ, ◌/◌, ◌%◌, List, [], ◌∷◌, ◌++◌, codes}
use Rattle.acdm_feed.specs.Minutes.{day_text, two_digits}

-- the date so many days after 1970-01-01, as it begins the text of an instant behind a quote
abbrev pub begin_text : ℕ → List ℕ
begin_text day = 34 ∷ (day_text day ++ 84 ∷ [])

-- the rest of that text, by the minute of the day, with the quote behind it
abbrev pub rest_text : ℕ → List ℕ
rest_text minute = two_digits (minute / 60) ++ (58 ∷ (two_digits (minute % 60) ++ codes ":00Z\""))
