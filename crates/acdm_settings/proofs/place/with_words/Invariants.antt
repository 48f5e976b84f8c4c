use Rattle.std.proofs.Common.{◌≡◌, ◌++◌, map, take}
use Rattle.std.specs.Prelude.{string_bytes}
use Rattle.acdm_settings.proofs.place.with_words.Given as goal

abbrev pub invariant-loop-word : goal.invariant-loop-word
invariant-loop-word l =
    map (λ s. string_bytes s) l.texts.items
    ≡ map (λ s. string_bytes s) l.initial.texts.items ++ map (λ w. w.now) (take l.word-index l.words)
