-- Which entries other boards have said that they keep.
use Rattle.std.specs.Prelude.{ℕ, ◌+◌, nat_eq, nat_le, Bool, true, false, ◌||◌, ◌&&◌, not, Option, Some, None}
use Rattle.std.specs.Prelude.{if◌then◌else◌, List, [], ◌∷◌}
use Rattle.acdm_confirming.specs.declared.confirmations.Confirmations.{Confirmations}
use Rattle.acdm_confirming.specs.declared.confirmations.ConfirmationTerms.{ConfirmationTerms}
use Rattle.acdm_confirming.specs.declared.confirmations.KeptBy.{KeptBy}
use Rattle.acdm_confirming.specs.declared.confirmed.Confirmed.{Confirmed}

-- a board by its name, and what it keeps
abbrev pub follower : ℕ → ℕ → KeptBy
follower name kept = record { name = name; kept = kept }

-- the board of a place keeps so many entries
abbrev pub keeps : ℕ → Option KeptBy → Bool
keeps count (Some f) = nat_le count f.kept
keeps count None = false

-- one of these boards has this name, and keeps so many entries
abbrev pub is_told_again : ℕ → ℕ → List (Option KeptBy) → Bool
is_told_again name count [] = false
is_told_again name count (None ∷ ps) = is_told_again name count ps
is_told_again name count (Some f ∷ ps) =
    (nat_eq f.name name && nat_le count f.kept) || is_told_again name count ps

-- how many boards keep so many entries: those of one name are one
abbrev pub holders : ℕ → List (Option KeptBy) → ℕ
holders count [] = 0
holders count (None ∷ ps) = holders count ps
holders count (Some f ∷ ps) =
    (if nat_le count f.kept && not (is_told_again f.name count ps) then 1 else 0) + holders count ps

-- the first of these places at which nobody follows
abbrev pub first_free : List (Option KeptBy) → ℕ
first_free [] = 0
first_free (None ∷ ps) = 0
first_free (Some f ∷ ps) = first_free ps + 1

-- as many boards as have to keep so many entries
abbrev pub are_enough : Confirmations → ℕ → ℕ → Bool
are_enough c wanted count = nat_le wanted (holders count c.places)

-- a reply may tell of so many entries: enough boards keep them, or it goes on without them since they are late
abbrev pub may_go : Confirmations → ConfirmationTerms → ℕ → Bool
may_go c terms count = are_enough c terms.wanted count || (c.is_late && not terms.is_strict)

-- by which terms replies wait
abbrev pub terms_of : Confirmed → ConfirmationTerms
terms_of c = c.terms
