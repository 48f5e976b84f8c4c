-- What a watch has seen, and which entry it may take next.
use Rattle.std.proofs.Common.{inl, inr}
use Rattle.std.specs.Prelude.{◌≡◌, ◌⊎◌, ℕ, List, reverse, Option, Some, None}
use Rattle.std.specs.Borrow.{MutBor}
use Rattle.bpf_helpers.specs.Promise.{Promise}
use Rattle.acdm_step.specs.declared.entry.Entry.{Entry}
use Rattle.acdm_step.specs.History.{Board, IsChecked, IsInRange, IsLegal, replay}
use Rattle.acdm_row.specs.Views.{RowView, PassView}

-- the row that is watched, and its entries that were seen
pub record WatchView : Type 0 where
  pub row : RowView
  pub seen : List Entry

-- what was seen is legal, and the replica is its replay
pub record IsWatch (row : RowView) (seen : List Entry) (board : Board) : Type 0 where
  pub legal : IsLegal row.sigs (reverse seen)
  pub replays : board ≡ replay row.sigs (reverse seen)

-- what an entry has to be before its command is tried: it has this number, its ranges, and no
-- program that was checked against other signatures
pub record IsNumbered (sigs : List (ℕ × Promise)) (number : ℕ) (e : Entry) : Type 0 where
  pub number_is : e.number ≡ number
  pub range : IsInRange e.session e.moment
  pub checked : IsChecked sigs e.command

-- A pass that was handed in, if any, stays as it was: what the call leaves of the parameter is
-- nothing, or the reference with what it refers to then.
abbrev pub IsUnchanged : Option (MutBor PassView) → Unit {0} ⊎ ((MutBor PassView × Unit {0}) ⊎ ⊥)
    → Type 0
IsUnchanged (Some pass) (inr (inl left)) = left.0.now ≡ pass.now
IsUnchanged (Some pass) _ = ⊥
IsUnchanged None _ = Unit {0}
