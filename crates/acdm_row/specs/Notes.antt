-- What a list of notes tells of the first cells of a row.
use Rattle.std.specs.Prelude.{◌≡◌, ℕ, ◌+◌, List, [], ◌∷◌, ◌++◌, map, take, Option, Some, None}
use Rattle.acdm_step.specs.declared.entry.Entry.{Entry}
use Rattle.once_cell.specs.declared.race.note.Note.{Note}
use Rattle.acdm_row.specs.declared.published.Published.{Published}

-- the entries before a published one
abbrev pub before_of : Published → List Entry
before_of p = map (λ s. s.value) p.before.value.items

abbrev pub entry_in : Option Published → List Entry
entry_in None = []
entry_in (Some p) = p.entry ∷ []

-- the entries that notes know
abbrev pub entries_of : List (Note Published) → List Entry
entries_of [] = []
entries_of (n ∷ ns) = entry_in n.known ++ entries_of ns

-- each note knows what was published in its cell, after these entries and those of the notes
-- before it, and the cells are the first
abbrev pub AreKnown : List ℕ → List Entry → List (Note Published) → Type 0
AreKnown cells past [] = Unit {0}
AreKnown [] past (n ∷ ns) = ⊥
AreKnown (c ∷ cells) past (n ∷ ns) = (p : Published) × (n.cell ≡ c) × (n.known ≡ Some p)
    × (before_of p ≡ past) × AreKnown cells (past ++ p.entry ∷ []) ns

-- this is known of the entry at a place, and of all before it
abbrev pub IsKnownAt : Option Published → List Entry → ℕ → Type 0
IsKnownAt known entries at = (p : Published) × (known ≡ Some p) × (before_of p ≡ take at entries)
    × (take (at + 1) entries ≡ take at entries ++ p.entry ∷ [])

-- each note knows what was published in its cell, and the cells are the first
abbrev pub AreNotes : List ℕ → List (Note Published) → Type 0
AreNotes cells [] = Unit {0}
AreNotes [] (n ∷ ns) = ⊥
AreNotes (c ∷ cells) (n ∷ ns) = (p : Published) × (n.cell ≡ c) × (n.known ≡ Some p)
    × AreNotes cells ns
