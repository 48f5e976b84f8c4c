use Rattle.std.proofs.Common.{◌++◌, ap, subst, ◌∙◌}
use Rattle.acdm_feed.specs.Telling.{Tells}
use Rattle.acdm_displays.proofs.Written.{feed_more}
use Rattle.acdm_displays.proofs.telling.ChangesTelling.add_next.Goals as goal

pub returns-clause-added : goal.returns-clause-added
returns-clause-added c before start =
    let took = c.in_ok-tell_next.ensures.took c.if-not-branch.false in
    feed_more c.args.self.now.room c.args.watch.now c.tell_next.new.watch
    c.args.self.now.known c.tell_next.new.known took.0 c.tell_next.new.text.items c.args.text.now.items
    c.push_name.new.text.items c.extend_from_slice.new.self.items c.len-number.result
    (subst (λ t. Tells 0 c.args.watch.now c.tell_next.new.watch
    c.args.self.now.known c.tell_next.new.known t c.tell_next.new.text.items)
    c.clear.ensures.items c.in_ok-tell_next.ensures.tells)
    took.1 c.len-number.ensures c.in_ok-push_name.ensures.added
    (c.in_ok-extend_from_slice.ensures.items
    ∙ ap (λ l. c.push_name.new.text.items ++ l) c.as_slice.ensures.value)
    before start
