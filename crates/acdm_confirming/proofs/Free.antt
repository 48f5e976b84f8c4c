-- Places at which nobody follows.
use Rattle.std.proofs.Common.{◌≡◌, ◌<◌, ℕ, suc, ◌+◌, List, [], ◌∷◌, Option, Some, None, length, refl, arith, slice_get}
use Rattle.acdm_confirming.specs.Confirming.{first_free}
use Rattle.acdm_confirming.specs.declared.confirmations.KeptBy.{KeptBy}

-- the first free place is one
pub free_at : (ps : List (Option KeptBy)) → first_free ps < length ps → slice_get ps (first_free ps) ≡ Some None
free_at [] l = absurd (omega (arith, l))
free_at (None ∷ ps) l = refl
free_at (Some f ∷ ps) l =
    let next : first_free ps + 1 ≡ suc (first_free ps) = omega arith in
    rw next (free_at ps (omega (arith, l)))
