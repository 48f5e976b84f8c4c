-- The names of alerts, by rising bit (this project's profile).
use Rattle.std.specs.Prelude.{ℕ, zero, suc, ◌+◌, Bool, true, ◌==◌, ◌&&◌, not, if◌then◌else◌, List}
use Rattle.std.specs.Prelude.{[], ◌∷◌, ◌++◌, codes, find, option_map, unwrap_or}
use Rattle.std.specs.Int.{bit_at}

-- a bit and its name
pub record Named : Type 0 where
  pub bit : ℕ
  pub name : List ℕ

abbrev named : ℕ → List ℕ → Named
named bit name = record { bit = bit; name = name }

abbrev all_names : List Named
all_names =
    named 1 (codes "CDM01") ∷ named 2 (codes "CDM02") ∷ named 3 (codes "CDM03")
    ∷ named 4 (codes "CDM04") ∷ named 5 (codes "CDM05")
    ∷ named 7 (codes "CDM07") ∷ named 8 (codes "CDM08") ∷ named 9 (codes "CDM09")
    ∷ named 10 (codes "CDM10") ∷ named 11 (codes "CDM11")
    ∷ named 12 (codes "CDM12") ∷ named 13 (codes "CDM13") ∷ named 14 (codes "CDM14")
    ∷ named 15 (codes "CDM07a")
    ∷ named 16 (codes "LOC00") ∷ named 17 (codes "LOC01") ∷ named 18 (codes "LOC02")
    ∷ named 19 (codes "LOC03")
    ∷ named 20 (codes "LOC04") ∷ named 21 (codes "LOC05") ∷ named 22 (codes "LOC06")
    ∷ named 23 (codes "LOC07")
    ∷ named 24 (codes "LOC08") ∷ named 25 (codes "LOC09") ∷ named 26 (codes "LOC10")
    ∷ named 27 (codes "LOC11")
    ∷ named 28 (codes "LOC12") ∷ named 29 (codes "LOC13") ∷ named 30 (codes "LOC14")
    ∷ named 31 (codes "LOC15") ∷ []

-- the name of a bit; bit 6 has none
abbrev pub name_of : ℕ → List ℕ
name_of bit = unwrap_or (option_map (λ n. n.name) (find (λ n. bit == n.bit) all_names)) []

abbrev pub has_bit : ℕ → ℕ → Bool
has_bit word bit = bit_at word bit == 1

-- what is written for one bit: its name, with a comma before it unless it is the first
abbrev pub piece : Bool → ℕ → ℕ → List ℕ
piece is_first word bit = if has_bit word bit then (if is_first then [] else 44 ∷ []) ++ name_of bit
    else []

-- the names of so many bits from one on
abbrev pub names_from : Bool → ℕ → ℕ → ℕ → List ℕ
names_from is_first word bit zero = []
names_from is_first word bit (suc more) =
    piece is_first word bit ++ names_from (is_first && not (has_bit word bit)) word (bit + 1) more

-- the names of the alerts of a word: its bits from 1 to 31
unfoldable pub names_text : ℕ → List ℕ
names_text word = names_from true word 1 31
