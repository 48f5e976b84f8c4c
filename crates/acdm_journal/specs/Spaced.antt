-- Words behind one another, a space before each.
use Rattle.std.specs.Prelude.{ℕ, List, ◌∷◌}
use Rattle.std.specs.List.{flat_map}

abbrev pub after_space : List ℕ → List ℕ
after_space word = 32 ∷ word

abbrev pub spaced : List (List ℕ) → List ℕ
spaced words = flat_map after_space words
