-- Jobs and what they give, one for each.
use Rattle.std.specs.Prelude.{ℕ, List, [], ◌∷◌}

-- two lists are as long as each other, and what stands in them at one place is so related
abbrev pub Each : {X Y : Type 0} → (X → Y → Type 0) → List X → List Y → Type 0
Each P [] [] = Unit {0}
Each P (x ∷ xs) (y ∷ ys) = P x y × Each P xs ys
Each P [] (y ∷ ys) = ⊥
Each P (x ∷ xs) [] = ⊥

-- jobs that wait, and for how many there is room
pub record Waiting (X : Type 0) : Type 0 where
  pub jobs : List X
  pub room : ℕ
