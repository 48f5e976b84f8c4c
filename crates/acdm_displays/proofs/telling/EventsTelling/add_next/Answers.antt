use Rattle.std.proofs.Common.{◌≡◌, ◌++◌, subst}
use Rattle.acdm_web.specs.Events.{event_text}
use Rattle.acdm_feed.specs.Telling.{Tells}
use Rattle.acdm_displays.proofs.Written.{event_more}
use Rattle.acdm_displays.proofs.telling.EventsTelling.add_next.Goals as goal

pub returns-clause-added : goal.returns-clause-added
returns-clause-added c before start =
    let took = c.in_ok-tell_next.ensures.took c.if-not-branch.false in
    event_more c.args.self.now.room c.args.watch.now c.tell_next.new.watch
    c.args.self.now.known c.tell_next.new.known took.0 c.tell_next.new.text.items c.args.text.now.items
    c.push_name_event.new.text.items c.push_event.new.text.items c.len-number.result c.len-next.result
    (subst (λ t. Tells 0 c.args.watch.now c.tell_next.new.watch
    c.args.self.now.known c.tell_next.new.known t c.tell_next.new.text.items)
    c.clear.ensures.items c.in_ok-tell_next.ensures.tells)
    took.1 c.len-number.ensures c.len-next.ensures c.in_ok-push_name_event.ensures.added
    (subst (λ l. c.push_event.new.text.items ≡ c.push_name_event.new.text.items
    ++ event_text c.len-next.result l) c.as_slice.ensures.value c.in_ok-push_event.ensures)
    before start
