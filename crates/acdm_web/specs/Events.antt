-- Events for browsers (the HTML standard, "Server-sent events"; the ids: this project's profile).
use Rattle.std.specs.Prelude.{ℕ, List, [], ◌∷◌, ◌++◌, codes}
use Rattle.std.specs.Fmt.{decimal}

-- a line, whose line feed ends its data, with the number of the entry that comes next as the id
abbrev pub event_text : ℕ → List ℕ → List ℕ
event_text next line =
    codes "id: " ++ (decimal next ++ (10 ∷ codes "data: " ++ (line ++ 10 ∷ [])))
