use Rattle.std.proofs.Common.{◌≡◌, ◌++◌, length}
use Rattle.std.specs.List.{flat_map}
use Rattle.acdm_feed.specs.Told.{answer_token}
use Rattle.acdm_feed.proofs.told.push_answers.Given as goal

abbrev pub invariant-loop-answer : goal.invariant-loop-answer
invariant-loop-answer l = record {
  before : l.line.before ≡ l.fn.line.before;
  adds : l.line.tokens ++ flat_map answer_token l.rest
      ≡ l.fn.line.tokens ++ flat_map answer_token l.answers;
}

abbrev pub decreases-loop-answer : goal.decreases-loop-answer
decreases-loop-answer l = length l.rest
