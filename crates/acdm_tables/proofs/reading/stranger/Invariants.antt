use Rattle.std.proofs.Common.{◌≡◌}
use Rattle.toml.specs.View.{members_view}
use Rattle.acdm_tables.specs.Reading.{stranger}
use Rattle.acdm_tables.proofs.reading.stranger.Given as goal

abbrev pub invariant-loop-key : goal.invariant-loop-key
invariant-loop-key l =
    (goal.iterator-loop-key).can_next l.key-iterator
    × (goal.iterator-loop-key).is_finite l.key-iterator
    × (stranger l.first l.second (members_view l.key-iterator)
    ≡ stranger l.first l.second (members_view l.table.entries))
