-- What is handed on behind the keeping of entries.
use Rattle.std.specs.Prelude.{◌≡◌, ◌<◌, ◌≤◌, ◌++◌, ◌⊎◌, ℕ, Bool, true, List, take, Option, Some, None}
use Rattle.std.specs.Prelude.{Result, Ok, Err, MatchOption}
use Rattle.acdm_keeping.specs.declared.keeper.Receipt.{Receipt}

-- entries up to this number, where there is one, are kept by this receipt
abbrev pub IsCovered : Option ℕ → Option Receipt → Type 0
IsCovered None receipt = Unit {0}
IsCovered (Some number) None = ⊥
IsCovered (Some number) (Some receipt) = number < receipt.count

-- the same of somebody who keeps entries; of one who keeps none, nothing is said
abbrev pub IsBacked : Bool → Option ℕ → Option Receipt → Type 0
IsBacked keeps last receipt = keeps ≡ true → IsCovered last receipt

-- of entries up to this number was told
abbrev pub IsTold : Option ℕ → ℕ → Type 0
IsTold last number = MatchOption last ⊥ (λ greatest. number ≤ greatest)

-- what a writer has taken, and what is held back from it
pub record Handed : Type 0 where
  pub taken : List ℕ
  pub held : List ℕ

abbrev pub handed : List ℕ → List ℕ → Handed
handed taken held = record { taken = taken; held = held }

-- Bytes that were held back were handed on, and none is lost; or none were handed on.
pub record HandsOn (before after : Handed) : Type 0 where
  pub all : after.taken ++ after.held ≡ before.taken ++ before.held

-- a receipt for so many entries, if there is one, is for that of this number too
abbrev pub IsWithin : Option ℕ → ℕ → Type 0
IsWithin None number = ⊥
IsWithin (Some count) number = number < count

-- who keeps entries, and the greatest number that had been announced when bytes were handed on last
pub record BackedView (K : Type 0) : Type 0 where
  pub keeper : K
  pub handed : Option ℕ

-- The writer was left alone, or what it took may tell of what this receipt keeps, and that is noted.
abbrev pub HandsBehind : Bool → Option ℕ → Option Receipt → Option ℕ → List ℕ → List ℕ → Type 0
HandsBehind keeps last receipt handed before after =
    (after ≡ before) ⊎ (IsBacked keeps last receipt × (handed ≡ last))

-- some of the bytes were taken behind those that were held; none on an error
abbrev pub TakesSome : {E : Type 0} → Handed → Handed → Result ℕ E → List ℕ → Type 0
TakesSome before after (Ok count) buf =
    after.taken ++ after.held ≡ before.taken ++ (before.held ++ take count buf)
TakesSome before after (Err e) buf = HandsOn before after

-- what was handed on tells of entries that a receipt is for, where entries are kept
abbrev pub IsHanded : Bool → Option ℕ → Option ℕ → Type 0
IsHanded keeps None receipt = Unit {0}
IsHanded keeps (Some number) receipt = keeps ≡ true → IsWithin receipt number

-- a receipt is for all entries that another is for
abbrev pub IsLater : Option ℕ → Option ℕ → Type 0
IsLater one other = (number : ℕ) → IsWithin one number → IsWithin other number
