use Rattle.std.proofs.Common.{◌≡◌, ◌++◌, map, length}
use Rattle.std.specs.Fmt.{decimal}
use Rattle.acdm_journal.specs.Spaced.{spaced}
use Rattle.acdm_journal.proofs.entry_text.push_answers.Given as goal

abbrev pub invariant-loop-answer : goal.invariant-loop-answer
invariant-loop-answer l = record {
  before : l.text.before ≡ l.initial.text.before;
  adds : l.text.added ++ spaced (map decimal l.rest)
      ≡ l.initial.text.added ++ spaced (map decimal l.initial.rest);
}

abbrev pub decreases-loop-answer : goal.decreases-loop-answer
decreases-loop-answer l = length l.rest
