-- Values that are given to fields, one after another.
use Rattle.std.specs.Prelude.{ℕ, List, [], ◌∷◌}
use Rattle.acdm_record.specs.declared.field.Field.{Field}
use Rattle.acdm_record.specs.declared.field.TextField.{TextField}
use Rattle.acdm_record.specs.Fields.{Fields, set_number, set_text}

-- a field and the value that it gets
pub data Assignment : Type 0 where
  number_is : Field → ℕ → Assignment
  text_is : TextField → List ℕ → Assignment

-- a record after these assignments, the first of the list first
abbrev pub with_all : Fields → List Assignment → Fields
with_all r [] = r
with_all r (number_is f v ∷ more) = with_all (set_number r f v) more
with_all r (text_is t v ∷ more) = with_all (set_text r t v) more
