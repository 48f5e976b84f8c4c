use Rattle.std.proofs.Common.{◌≡◌, sym, ap, subst, ◌∙◌}
use Rattle.acdm_step.specs.History.{replay, after}
use Rattle.acdm_step.specs.Prepared.{after_change}
use Rattle.acdm_step.specs.Planning.{lacks_answer}
use Rattle.acdm_step.proofs.Answering.{reads_of, some_left, none_left, asked, more, used_up}
use Rattle.acdm_step.proofs.planning.plan_with.Goals as goal

pub returns-then-is_unanswered-clause-misses : goal.returns-then-is_unanswered-clause-misses
returns-then-is_unanswered-clause-misses c =
    let made = c.new-logged.ensures in
    λ given sigs J legal same. asked sigs J c.args.role c.args.moment c.args.command.now
    c.args.answers.now _ _ _ _ legal
    (reads_of c.new-logged.result sigs c.args.answers.now (made.sigs ∙ c.sigs.ensures
    ∙ ap (λ b. b.slots.sigs) same) made.answers
    made.log)
    (c.left-left.ensures ∙ c.plan.ensures.same_rule.source ∙ made.answers)
    (c.in_ok-plan.ensures.outcome sigs J legal same)
    (ap lacks_answer (sym c.verdict.ensures) ∙ sym c.is_unanswered.ensures
    ∙ c.if-is_unanswered.true)

pub returns-then-not-is_empty-clause-misses : goal.returns-then-not-is_empty-clause-misses
returns-then-not-is_empty-clause-misses c =
    let made = c.new-logged.ensures in
    λ given sigs J legal same. more sigs J c.args.role c.args.moment c.args.command.now
    c.args.answers.now _ _ _ _ legal
    (reads_of c.new-logged.result sigs c.args.answers.now (made.sigs ∙ c.sigs.ensures
    ∙ ap (λ b. b.slots.sigs) same) made.answers
    made.log)
    (c.left-left.ensures ∙ c.plan.ensures.same_rule.source ∙ made.answers)
    (c.in_ok-plan.ensures.outcome sigs J legal same)
    (ap lacks_answer (sym c.verdict.ensures) ∙ sym c.is_unanswered.ensures
    ∙ c.if-is_unanswered.false)
    (some_left c.left-left.result.now c.is_empty.result c.is_empty.ensures c.if-not-is_empty.true)

pub returns-clause-plans : goal.returns-clause-plans
returns-clause-plans c =
    let made = c.new-logged.ensures in
    λ sigs J legal same.
    let used = used_up sigs J c.args.role c.args.moment c.args.command.now
    c.args.answers.now _ _ _ _ legal
    (reads_of c.new-logged.result sigs c.args.answers.now (made.sigs ∙ c.sigs.ensures
    ∙ ap (λ b. b.slots.sigs) same) made.answers
    made.log)
    (c.left-left.ensures ∙ c.plan.ensures.same_rule.source ∙ made.answers)
    (c.in_ok-plan.ensures.outcome sigs J legal same)
    (ap lacks_answer (sym c.verdict.ensures) ∙ sym c.is_unanswered.ensures
    ∙ c.if-is_unanswered.false)
    (none_left c.left-left.result.now c.is_empty.result c.is_empty.ensures c.if-not-is_empty.false)
    in
    record {
      uses = used.uses;
      verdict_is = used.verdict_is;
      replays = λ session.
          subst (λ v. after_change c.args.core.now c.in_ok-plan.plan.change ≡ replay sigs
          (after J session c.args.role c.args.moment c.args.command.now v c.args.answers.now))
          used.verdict_is
          (c.in_ok-plan.ensures.board sigs J session c.args.answers.now legal same
          (λ accepted. used.gained));
    }
