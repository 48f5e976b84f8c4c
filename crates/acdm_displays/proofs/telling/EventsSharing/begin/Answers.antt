use Rattle.std.proofs.Common.{◌≤◌, length, subst, ◌∙◌}
use Rattle.acdm_displays.specs.Displayed.{IsNext}
use Rattle.acdm_displays.proofs.Written.{begun_events, begun_board_event, few_board, few_entry, on_ok}
use Rattle.acdm_displays.proofs.telling.EventsSharing.begin.Goals as goal

pub returns-in-Entry-clause-begins : goal.returns-in-Entry-clause-begins
returns-in-Entry-clause-begins c = on_ok c.begin_events.result (λ told room known before.
    begun_events c.args.self.now.room room c.in-Entry.number c.args.watch.now.seen c.args.self.now.known c.args.start before _
    (known.3.room_is ∙ known.2) c.in-Entry.is
    (subst (λ s. IsNext s (length c.args.watch.now.seen)) c.in-Entry.is c.requires.next)
    (subst (λ m. c.in-Entry.number ≤ m) c.len.ensures c.if-number-len.true) (told before)) c.begin_events.ensures.begins

pub returns-in-Entry-2-clause-begins : goal.returns-in-Entry-2-clause-begins
returns-in-Entry-2-clause-begins c = on_ok c.begin_board_event.result (λ told room known before.
    begun_board_event c.args.self.now.room room c.args.watch.now.seen c.args.self.now.known c.args.start before _
    (known.3.room_is ∙ known.2)
    (λ n is. few_entry c.args.start c.in-Entry.number c.len.result n c.args.watch.now.seen c.in-Entry.is
    c.if-number-len.false c.len.ensures is) (told before)) c.begin_board_event.ensures.begins

pub returns-in-Board-clause-begins : goal.returns-in-Board-clause-begins
returns-in-Board-clause-begins c = on_ok c.begin_board_event-in-Board.result (λ told room known before.
    begun_board_event c.args.self.now.room room c.args.watch.now.seen c.args.self.now.known c.args.start before _
    (known.3.room_is ∙ known.2) (λ n is. few_board c.args.start n c.args.watch.now.seen c.in-Board.is is)
    (told before)) c.begin_board_event-in-Board.ensures.begins
