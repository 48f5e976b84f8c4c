-- What is seen of a line of JSON that is added to, and of the names in its keys.
use Rattle.std.specs.Prelude.{ℕ, ◌-◌, ◌&&◌, List, ◌∷◌, ◌++◌, [], Bool, length, take, drop}
use Rattle.std.specs.List.{list_all}
use Rattle.std.specs.Str.{bytes_eq}
use Rattle.json.specs.Token.{Token}
use Rattle.json.specs.Run.{is_plain}

-- what stood there before it, and its tokens
pub record LineView : Type 0 where
  pub before : List ℕ
  pub tokens : List Token

-- the name in a key, which stands between quotes with a colon behind
abbrev pub name_in : List ℕ → List ℕ
name_in k = drop 1 (take (length k - 2) k)

-- whether it does, and no byte of the name needs an escape
abbrev pub is_key : List ℕ → Bool
is_key k = bytes_eq k (34 ∷ (name_in k ++ 34 ∷ 58 ∷ [])) && list_all is_plain (name_in k)
