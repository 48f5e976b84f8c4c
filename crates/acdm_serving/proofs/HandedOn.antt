-- What sessions have handed on, one after the other.
use Rattle.std.proofs.Common.{◌≡◌, ℕ, Bool, List, ◌∷◌, sym, subst}
use Rattle.std.specs.Prelude.{Option, Some, None}
use Rattle.std.specs.List.{All}
use Rattle.std.proofs.lemmas.List.Elements.{All-cons}
use Rattle.acdm_keeping.specs.Behind.{IsHanded, IsLater}

-- what is handed on behind a receipt is behind a later one
pub handed_later : (keeps : Bool) (handed one other : Option ℕ) → IsHanded keeps handed one → IsLater one other
    → IsHanded keeps handed other
handed_later keeps None one other within later = tt
handed_later keeps (Some number) one other within later = λ kept. later number (within kept)

-- one, and those behind it
pub all_before : {X : Type 0} (P : X → Type 0) (x : X) (xs ys : List X) → ys ≡ x ∷ xs → P x → All P xs → All P ys
all_before P x xs ys is one more = subst (All P) (sym is) (All-cons P x xs one more)
