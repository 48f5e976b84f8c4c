-- How many entries are kept, as passes of one cell know it.
use Rattle.std.specs.Prelude.{◌≡◌, ◌≤◌, ℕ, List, [], slice_index, Bool, true, false}
use mathlib.Core.Option.{some}
use lib.ListN.{get_elem?}
use Rattle.atomic_table.specs.Seated.{TableId}
use Rattle.acdm_keeping.specs.declared.knowledge.Knowledge.{Knowledge}

-- the name of no cell
abbrev pub no_table : TableId
no_table = record { words = 0; slots = 0; views_name = 0; atom = 0; block = 0; offset = 0; slot_names = [] }

-- the pass of a keeper: just so many entries are kept
abbrev pub knows : ℕ → Knowledge
knows count = record { keeps = true; count = count; claim = 0 }

-- the pass of a receipt: so many are, at least
abbrev pub claims : ℕ → Knowledge
claims count = record { keeps = false; count = 0; claim = count }

-- what a pass with a receipt may be cut into: a keeper gives one for all that is kept
abbrev pub receipt_if : Bool → ℕ → ℕ → Knowledge
receipt_if true count claim = claims count
receipt_if false count claim = claims claim

abbrev pub receipt_of : Knowledge → Knowledge
receipt_of v = receipt_if v.keeps v.count v.claim

-- a keeper with a receipt to compare
abbrev pub compared : Knowledge → Knowledge → Knowledge
compared v w = record { keeps = v.keeps; count = v.count; claim = w.claim }

-- one pass at most knows how many entries are kept, and none claims more
abbrev pub Counted : List ℕ → List Knowledge → Type 0
Counted words views =
    (seat : ℕ) × (count : ℕ)
    × ((by : ℕ) (v : Knowledge) → get_elem? views by ≡ some v
    → (v.keeps ≡ true → (by ≡ seat) × (v.count ≡ count)) × (v.claim ≤ count))

-- the keeper says how many are kept now
abbrev pub Raised : Knowledge → List ℕ → List ℕ → Knowledge → Type 0
Raised v before after w = w ≡ knows (slice_index after 0)

-- the keeper compares a receipt with what is kept, and is as it was
abbrev pub Compared : Knowledge → List ℕ → List ℕ → Knowledge → Type 0
Compared v before after w = (w ≡ knows v.count) × (v.claim ≤ v.count)
