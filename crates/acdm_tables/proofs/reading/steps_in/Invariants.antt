use Rattle.std.proofs.Common.{◌≡◌, [], length}
use Rattle.toml.specs.View.{array_view, items_view}
use Rattle.acdm_tables.specs.Reading.{steps_from}
use Rattle.acdm_tables.proofs.reading.steps_in.Given as goal

abbrev pub invariant-loop-value : goal.invariant-loop-value
invariant-loop-value l =
    steps_from l.steps.items (items_view l.rest) ≡ steps_from [] (array_view l.list)

abbrev pub decreases-loop-value : goal.decreases-loop-value
decreases-loop-value l = length l.rest
