use Rattle.std.proofs.Common.{◌≡◌, []}
use Rattle.toml.specs.View.{members_view}
use Rattle.acdm_tables.specs.Reading.{types_from}
use Rattle.acdm_tables.proofs.reading.types_in.Given as goal

abbrev pub invariant-loop-key : goal.invariant-loop-key
invariant-loop-key l =
    (goal.iterator-loop-key).can_next l.key-iterator
    × (goal.iterator-loop-key).is_finite l.key-iterator
    × (types_from l.types.items (members_view l.key-iterator)
    ≡ types_from [] (members_view l.table.entries))
