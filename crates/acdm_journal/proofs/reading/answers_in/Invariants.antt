use Rattle.std.proofs.Common.{◌≡◌, true, []}
use Rattle.acdm_journal.specs.Memory.{some_need_memory}
use Rattle.acdm_journal.specs.Reading.{answers_from}
use Rattle.acdm_journal.proofs.reading.answers_in.Given as goal

abbrev pub invariant-loop-left : goal.invariant-loop-left
invariant-loop-left l =
    (answers_from l.given.items l.left l.words
    ≡ answers_from l.initial.given.items l.initial.left l.initial.words)
    × (some_need_memory l.left l.words ≡ true
    → some_need_memory l.initial.left l.initial.words ≡ true)
    × ((l.given.items ≡ [] → ⊥) → some_need_memory l.initial.left l.initial.words ≡ true)

abbrev pub decreases-loop-left : goal.decreases-loop-left
decreases-loop-left l = l.left
