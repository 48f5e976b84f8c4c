use Rattle.std.proofs.Common.{◌≡◌, ◌+◌, ◌≤◌, map, drop, length, false, if◌then◌else◌}
use Rattle.acdm_settings.specs.Settings.{place_from}
use Rattle.acdm_settings.proofs.place.place_from.Given as goal

abbrev pub invariant-loop-word : goal.invariant-loop-word
invariant-loop-word l =
    (place_from l.before l.is_named (map (λ w. w.now) (drop l.word-index l.words))
    ≡ place_from l.count false (map (λ w. w.now) l.words))
    × (l.before + (if l.is_named then 1 else 0) ≤ l.count + l.word-index)
