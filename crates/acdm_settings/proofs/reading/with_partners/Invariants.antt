use Rattle.std.proofs.Common.{◌≡◌, map, length}
use Rattle.std.specs.Prelude.{string_bytes}
use Rattle.toml.specs.View.{array_view, items_view}
use Rattle.acdm_settings.specs.Settings.{partners_from}
use Rattle.acdm_settings.proofs.reading.with_partners.Given as goal

abbrev pub invariant-loop-value : goal.invariant-loop-value
invariant-loop-value l =
    partners_from (map (λ s. string_bytes s) l.words.items) (items_view l.rest)
    ≡ partners_from (map (λ s. string_bytes s) l.initial.words.items) (array_view l.list)

abbrev pub decreases-loop-value : goal.decreases-loop-value
decreases-loop-value l = length l.rest
