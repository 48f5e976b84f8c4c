-- The number that a text names by its digits, with nothing before them (this project's profile).
use Rattle.std.specs.Prelude.{ℕ, ◌≡◌, ◌==◌, ◌<◌, ◌^◌, Bool, true, ◌||◌, not, List, [], ◌∷◌, IsUtf8}
use Rattle.std.specs.Str.Parse.{IsNumeral, digits_value, without_leading_plus}

-- a text with no sign before its digits, and no zero but that of 0
abbrev pub is_plain : List ℕ → Bool
is_plain [] = true
is_plain (b ∷ []) = true
is_plain (b ∷ c ∷ cs) = not (b == 43 || b == 48)

-- the number that a text names
abbrev pub NamesNumber : List ℕ → ℕ → Type 0
NamesNumber text n = (is_plain text ≡ true) × IsNumeral 10 (without_leading_plus text)
    × (digits_value 10 (without_leading_plus text) ≡ n)

-- no number below 2^64 is named by a text
abbrev pub NamesNoNumber : List ℕ → Type 0
NamesNoNumber text = (n : ℕ) → n < 2 ^ 64 → IsUtf8 text → NamesNumber text n → ⊥
