-- What came of the lines of a session.
use Rattle.std.specs.Prelude.{ℕ, ◌≡◌, ◌+◌, ◌++◌, ◌∷◌, min, nat_lt, nat_le, ◌==◌, ◌/◌, ◌%◌, ◌&&◌, if◌then◌else◌, Bool, true, false}
use Rattle.std.specs.Prelude.{List, [], codes, replicate, take, slice_get, slice_set, Some, None}
use Rattle.std.specs.Fmt.{decimal}
use Rattle.std.specs.List.{flat_map}
use Rattle.acdm_partners.specs.declared.counts.LineOutcome.{LineOutcome}
use Rattle.acdm_partners.specs.declared.counts.LineOutcome.TheVariants.{Entered, Refused, Bad}

-- how many lines made an entry; how many of these were refused, and how many lines were bad, by each code from 0;
-- how many were bad in all, and of the last of them its code and its first 200 bytes
pub record CountsView : Type 0 where
  pub entries : ℕ
  pub refused : List ℕ
  pub bad : List ℕ
  pub bad_lines : ℕ
  pub last_code : ℕ
  pub last_line : List ℕ

-- none came
abbrev pub no_lines : CountsView
no_lines = record {
  entries = 0;
  refused = replicate 600 0;
  bad = replicate 600 0;
  bad_lines = 0;
  last_code = 0;
  last_line = [];
}

-- one more, as far as a word counts
abbrev pub one_more : ℕ → ℕ
one_more n = min (n + 1) 18446744073709551615

-- one more by a code, and as many as before by each other
pub record CountsOne (code : ℕ) (old new : List ℕ) : Type 0 where
  pub there : (n : ℕ) → slice_get old code ≡ Some n → new ≡ slice_set old code (one_more n)
  pub beyond : slice_get old code ≡ None → new ≡ old

-- a line of which this came was counted
abbrev pub Counts : LineOutcome → List ℕ → CountsView → CountsView → Type 0
Counts Entered line old new = new ≡ record old { entries = one_more old.entries }
Counts (Refused code) line old new =
    CountsOne code old.refused new.refused
    × (new ≡ record old { entries = one_more old.entries; refused = new.refused })
Counts (Bad code) line old new =
    CountsOne code old.bad new.bad × (new ≡ record old {
      bad = new.bad;
      bad_lines = one_more old.bad_lines;
      last_code = code;
      last_line = take 200 line;
    })

-- how many there are by a code, behind it, where there is one: a comma before each but the first
abbrev pub count_text : Bool → ℕ → ℕ → List ℕ
count_text is_first code n =
    if nat_lt 0 n then (if is_first then [] else codes ",") ++ (decimal code ++ (58 ∷ decimal n)) else []

-- none was told by now, nor is by this count
abbrev pub is_still_first : Bool → ℕ → Bool
is_still_first is_first n = if nat_lt 0 n then false else is_first

-- the counts from a code on, and a hyphen where there is none
abbrev pub by_code_from : ℕ → Bool → List ℕ → List ℕ
by_code_from code is_first [] = if is_first then codes "-" else []
by_code_from code is_first (n ∷ more) =
    count_text is_first code n ++ by_code_from (one_more code) (is_still_first is_first n) more

abbrev pub by_code : List ℕ → List ℕ
by_code counts = by_code_from 0 true counts

-- a hexadecimal digit
abbrev pub hex_digit : ℕ → ℕ
hex_digit n = if nat_lt n 10 then 48 + n else 87 + n

-- a byte in a text of JSON in ASCII, as the character of its number
abbrev pub json_byte : ℕ → List ℕ
json_byte b =
    if b == 34 then codes "\\\""
    else (if b == 92 then codes "\\\\"
    else (if nat_le 32 b && nat_le b 126 then b ∷ []
    else codes "\\u00" ++ hex_digit (b / 16) ∷ hex_digit (b % 16) ∷ []))

abbrev pub json_text : List ℕ → List ℕ
json_text bytes = 34 ∷ (flat_map json_byte bytes ++ 34 ∷ [])

-- the last bad line, where one was bad
abbrev pub last_text : CountsView → List ℕ
last_text c = if nat_lt 0 c.bad_lines then codes " last " ++ json_text c.last_line else []

-- what `status` tells of the lines of a session
abbrev pub counts_text : CountsView → List ℕ
counts_text c =
    codes " lines " ++ decimal (min (c.entries + c.bad_lines) 18446744073709551615) ++ codes " entries "
    ++ decimal c.entries ++ codes " refused " ++ by_code c.refused ++ codes " bad " ++ by_code c.bad ++ last_text c

-- what the log tells of the last bad line, as two members of an object
abbrev pub bad_members : CountsView → List ℕ
bad_members c = codes "\"code\":" ++ decimal c.last_code ++ codes ",\"line\":" ++ json_text c.last_line
