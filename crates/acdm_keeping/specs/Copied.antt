-- What was copied from a reader to a writer.
use Rattle.std.specs.Prelude.{ℕ, ◌≡◌, List, ◌++◌, length}

-- A reader gave so many bytes more, and a writer took these and no others.
abbrev pub Copies : ℕ → List ℕ → List ℕ → List ℕ → List ℕ → Type 0
Copies count given given_after taken taken_after = (more : List ℕ) × (length more ≡ count)
    × (given_after ≡ given ++ more) × (taken_after ≡ taken ++ more)
