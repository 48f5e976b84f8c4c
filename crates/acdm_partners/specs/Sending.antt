-- Where the replies of a session go: to one connection after the other, and what each of them took.
use Rattle.std.specs.Prelude.{ℕ, ◌≡◌, ◌==◌, if◌then◌else◌, ◌⊎◌, List, [], length, take}
use Rattle.std.specs.Prelude.{Option, Some, None, IsSome, Result, MatchResult}
use Rattle.std.specs.Io.KnownBytes.{append_known}

-- the number of the connection that replies go to, and all that it took; nothing is known where there is
-- none, or where it is cut off
pub record OutletView : Type 0 where
  pub number : ℕ
  pub log : Option (List ℕ)

-- what the connection of a number took so far: one that comes newly has taken nothing
abbrev pub taken_by : ℕ → OutletView → Option (List ℕ)
taken_by number o = if number == o.number then o.log else Some []

-- it took these bytes behind what it took before, and is there still
abbrev pub Takes : OutletView → OutletView → List ℕ → Type 0
Takes old new bytes = (new.log ≡ append_known (taken_by new.number old) bytes) × IsSome new.log

-- nothing goes to it any more
abbrev pub IsCut : OutletView → Type 0
IsCut o = o.log ≡ None

-- What a write of replies answers: how many bytes the connection took; or that all are gone with one that
-- is cut off, or a failure with that. Nothing was to be written, or nothing is dropped but at a cut.
abbrev pub Replies : {E : Type 0} → OutletView → OutletView → Result ℕ E → List ℕ → Type 0
Replies old new r bytes =
    MatchResult r (λ n. (Takes old new (take n bytes) ⊎ (IsCut new × (n ≡ length bytes))) ⊎ (bytes ≡ []) × (new ≡ old)) (λ _. IsCut new)
