use Rattle.std.proofs.Common.{◌≡◌, ◌-◌}
use Rattle.bpf_regstate.specs.Effect.{without_words}
use Rattle.bpf_regstate.proofs.words.forget.Given as goal

abbrev pub invariant-loop-place : goal.invariant-loop-place
invariant-loop-place l = l.words.items
    ≡ without_words l.initial.words.items l.word (l.place - l.word)
