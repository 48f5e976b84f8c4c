-- What waits in boxes (this project's profile).
use Rattle.std.specs.Prelude.{List, map, Option, option_map}
use Rattle.std.specs.declared.boxed.Box.{Box}
use Rattle.std.specs.declared.alloc.Global.{Global}
use Rattle.bpf_regstate.specs.Shape.{Shape}

-- the state in a box, where there is one
abbrev pub contents : Option (Box Shape Global) → Option Shape
contents o = option_map (λ b. b.value) o

abbrev pub rows_of : List (Option (Box Shape Global)) → List (Option Shape)
rows_of = map contents
