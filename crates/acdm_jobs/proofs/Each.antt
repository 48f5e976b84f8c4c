-- One element of a list for each of another, as both grow.
use Rattle.std.proofs.Common.{◌≡◌, List, [], ◌∷◌, ◌++◌, length, refl, sym, ap, ◌∙◌, arith}
use Rattle.std.proofs.Common.{append_assoc}
use Rattle.acdm_jobs.specs.Each.{Each}

pub each_push : {X Y : Type 0} (P : X → Y → Type 0) (xs : List X) (ys : List Y) (x : X) (y : Y)
    → Each P xs ys → P x y → Each P (xs ++ x ∷ []) (ys ++ y ∷ [])
each_push P [] [] x y h p = (p, tt)
each_push P (a ∷ xs) (b ∷ ys) x y h p = (h.0, each_push P xs ys x y h.1 p)
each_push P [] (b ∷ ys) x y h p = absurd h
each_push P (a ∷ xs) [] x y h p = absurd h

-- the next one is done: what it gave stands behind what those before it gave
pub each_next : {X Y : Type 0} (P : X → Y → Type 0) (before left rest whole : List X)
    (gave gives : List Y) (x : X) (y : Y)
    → before ++ left ≡ whole → left ≡ x ∷ rest → gives ≡ gave ++ y ∷ [] → Each P before gave
    → P x y → (part : List X) × (part ++ rest ≡ whole) × Each P part gives
each_next P before left rest whole gave gives x y all next pushed each p = (
  before ++ x ∷ [],
  append_assoc before (x ∷ []) rest ∙ ap (λ l. before ++ l) (sym next) ∙ all,
  rw pushed (each_push P before gave x y each p),
)

pub each_length : {X Y : Type 0} (P : X → Y → Type 0) (xs : List X) (ys : List Y)
    → Each P xs ys → length xs ≡ length ys
each_length P [] [] h = refl
each_length P (x ∷ xs) (y ∷ ys) h = omega (arith, each_length P xs ys h.1)
each_length P [] (y ∷ ys) h = absurd h
each_length P (x ∷ xs) [] h = absurd h
