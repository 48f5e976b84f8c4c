-- What somebody does who waits for entries to be kept.
use Rattle.std.specs.Prelude.{◌≡◌, ◌<◌, ◌≤◌, ℕ, true, false}
use Rattle.acdm_keeping.specs.declared.progress.Progress.{Progress}
use Rattle.acdm_keeping.specs.declared.progress.Turn.{Turn}
use Rattle.acdm_keeping.specs.declared.progress.Turn.TheVariants.{Kept, Failed, Mine}

-- They are kept where so many are, and nothing has failed; else it is for him to keep them. Once keeping has
-- failed, nothing is told to be kept.
abbrev pub Turns : {J : Type 0} → Progress J → ℕ → Turn J → Type 0
Turns p count (Kept r) = (p.has_failed ≡ false) × (r ≡ p.receipt) × (count ≤ r)
Turns p count Failed = p.has_failed ≡ true
Turns p count Mine = (p.has_failed ≡ false) × (p.receipt < count)

-- where entries are told to be kept, so many are
abbrev pub TellsKept : {J : Type 0} → ℕ → Turn J → Type 0
TellsKept count (Kept r) = count ≤ r
TellsKept count _ = Unit {0}
