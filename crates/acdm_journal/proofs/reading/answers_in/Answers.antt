use Rattle.std.proofs.Common.{◌≡◌, arith, rules, ap, ◌∙◌, ◌-◌, [], ◌∷◌, ◌++◌}
use Rattle.acdm_journal.specs.Reading.{answers_from}
use Rattle.acdm_journal.proofs.Needs.{some_need}
use Rattle.acdm_journal.proofs.ReadBack.{answers_more}
use Rattle.acdm_journal.proofs.reading.answers_in.Goals as goal

pub loop-left-preserved : goal.loop-left-preserved
loop-left-preserved c =
    let at = c.loop-left in
    let rest = c.number_in-in-loop-left.new.words in
    let read = c.in_ok-answer.ensures.reads in
    let pushed : c.push.new.self.items ≡ at.given.items ++ c.in_ok-answer.answer ∷ [] =
    search rules in
    let needs = at.invariant.1 (some_need at.left at.words _ rest (omega arith) read) in (
      ap (λ items. answers_from items (at.left - 1) rest) pushed
          ∙ answers_more at.given.items at.left at.words _ rest (omega arith) read
          ∙ at.invariant.0,
      λ more. needs,
      λ some. needs,
    )
