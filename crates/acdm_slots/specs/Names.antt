-- The names of the kinds of programs (this project's profile).
use Rattle.std.specs.Prelude.{ℕ, if◌then◌else◌, List, codes, Option, Some, None}
use Rattle.std.specs.Str.{bytes_eq}
use Rattle.acdm_slots.specs.declared.kind.Kind.{Kind}
use Rattle.acdm_slots.specs.declared.kind.Kind.TheVariants.{Tobt, Alert}

abbrev pub kind_name : Kind → List ℕ
kind_name Tobt = codes "tobt"
kind_name Alert = codes "alert"

-- the kind of a name
abbrev pub kind_named : List ℕ → Option Kind
kind_named w =
    if bytes_eq w (codes "tobt") then Some Tobt
    else (if bytes_eq w (codes "alert") then Some Alert else None)
