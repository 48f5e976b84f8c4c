-- The line of a term, and the file that has it (this project's profile).
use Rattle.std.specs.Prelude.{ℕ, ◌≡◌, ◌<◌, ◌^◌, List, [], ◌∷◌, ◌++◌, codes, IsUtf8}
use Rattle.std.specs.Fmt.{decimal}
use Rattle.acdm_lines.specs.Numbers.{NamesNumber}

-- `term N`
abbrev pub NamesTerm : List ℕ → ℕ → Type 0
NamesTerm line n = (text : List ℕ) × (line ≡ codes "term " ++ text) × NamesNumber text n

-- no term below 2^64 is named by a line
abbrev pub NamesNoTerm : List ℕ → Type 0
NamesNoTerm line = (n : ℕ) → n < 2 ^ 64 → IsUtf8 line → NamesTerm line n → ⊥

-- the same as a line, of a number that is written in decimal
abbrev pub term_line : ℕ → List ℕ
term_line n = codes "term " ++ decimal n ++ 10 ∷ []

-- the file beside the journal of a path
abbrev pub term_path : List ℕ → List ℕ
term_path journal = journal ++ codes ".term"
