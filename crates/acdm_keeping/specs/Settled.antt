-- In which order a file takes the place of another.
use Rattle.std.specs.Fmt.{decimal}
use Rattle.std.specs.Prelude.{◌≡◌, ◌⊎◌, ◌==◌, if◌then◌else◌, ℕ, codes, List, [], ◌∷◌, ◌++◌, Option, Result, MatchResult, option_map}

-- what is done once all of it is written: its bytes stand on the disk, it has the name of the other, and so
-- it is named on the disk
pub data Step : Type 0 where
  Contents : Step
  Name : Step
  Folder : Step

-- one step more, where it is known which were done
abbrev pub did : Option (List Step) → Step → Option (List Step)
did done step = option_map (λ steps. steps ++ step ∷ []) done

-- A step was taken, or has failed and is none.
abbrev pub Steps : {T E : Type 0} → Option (List Step) → Option (List Step) → Step → Result T E → Type 0
Steps old new step r = MatchResult r (λ _. new ≡ did old step) (λ _. new ≡ old)

-- All three were taken, in this order; or one has failed, and those before it were taken alone: it has no
-- name before its bytes stand on the disk.
abbrev pub SettlesInOrder : {T E : Type 0} → Option (List Step) → Option (List Step) → Result T E → Type 0
SettlesInOrder old new r =
    MatchResult r (λ _. new ≡ did (did (did old Contents) Name) Folder)
    (λ _. (new ≡ old) ⊎ ((new ≡ did old Contents) ⊎ (new ≡ did (did old Contents) Name)))

-- the name beside another one, of the same folder, that is tried first, or so many tries later
abbrev pub part_name : List ℕ → ℕ → List ℕ
part_name whole tries = (whole ++ codes ".part") ++ (if tries == 0 then [] else decimal tries)

abbrev pub IsPartOf : List ℕ → List ℕ → Type 0
IsPartOf whole part = (tries : ℕ) × (part ≡ part_name whole tries)
