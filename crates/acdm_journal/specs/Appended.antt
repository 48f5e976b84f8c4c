-- A text that is added to.
use Rattle.std.specs.Prelude.{ℕ, List}

-- a text that is added to: what stood there before, and what was added
pub record AppendedView : Type 0 where
  pub before : List ℕ
  pub added : List ℕ
