-- What is told of only once other boards keep it.
use Rattle.std.specs.Prelude.{◌≡◌, ◌<◌, ℕ, true, Option, Some, None}
use Rattle.acdm_confirming.specs.Confirming.{may_go}
use Rattle.acdm_confirming.specs.declared.confirmations.Confirmation.{Confirmation}
use Rattle.acdm_confirming.specs.declared.confirmations.ConfirmationTerms.{ConfirmationTerms}

-- Where replies wait for other boards, by these terms, one may tell of the entry of this number and of all before it by
-- what these had said.
abbrev pub IsConfirmed : Option ConfirmationTerms → Option Confirmation → ℕ → Type 0
IsConfirmed None confirmation number = Unit {0}
IsConfirmed (Some terms) None number = ⊥
IsConfirmed (Some terms) (Some c) number = (number < c.count) × (may_go c.confirmations terms c.count ≡ true)
