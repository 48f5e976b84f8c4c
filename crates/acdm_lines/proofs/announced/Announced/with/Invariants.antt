use Rattle.std.proofs.Common.{[], Some, ◌++◌, ◌∷◌}
use Rattle.acdm_lines.specs.Counted.{known_bytes}
use Rattle.acdm_lines.proofs.announced.Announced.with.Given as goal

abbrev pub ghost-of : goal.ghost-of
ghost-of g = Some (known_bytes g._value.now.0.now.first ++ g._value.now.1 ∷ [])
