use Rattle.std.proofs.Common.{◌≡◌, [], map}
use Rattle.std.specs.Prelude.{string_bytes}
use Rattle.toml.specs.View.{members_view}
use Rattle.acdm_settings.specs.Settings.{words_from}
use Rattle.acdm_settings.proofs.reading.words_of.Given as goal

abbrev pub invariant-loop-key : goal.invariant-loop-key
invariant-loop-key l =
    (goal.iterator-loop-key).can_next l.key-iterator
    × (goal.iterator-loop-key).is_finite l.key-iterator
    × (words_from (map (λ s. string_bytes s) l.words.items) (members_view l.key-iterator)
    ≡ words_from [] (members_view l.table.entries))
