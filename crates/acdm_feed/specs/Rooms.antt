-- A text that is added to.
use Rattle.std.specs.Prelude.{ℕ, List}

-- the text, and how many bytes are ready behind it
pub record RoomView : Type 0 where
  pub items : List ℕ
  pub ready : ℕ
