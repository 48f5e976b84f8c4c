-- What a crash may leave of a text that is kept in a file.
use Rattle.std.specs.Prelude.{ℕ, ◌≡◌, ◌≤◌, List, take}

-- What a crash may leave of a text that was being written, of which the first bytes, so many, stood on the disk: any
-- first part of it that has these.
abbrev pub CrashLeaves : List ℕ → ℕ → List ℕ → Type 0
CrashLeaves text settled left = (count : ℕ) × (settled ≤ count) × (left ≡ take count text)
