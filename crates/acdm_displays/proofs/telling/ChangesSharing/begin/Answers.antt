use Rattle.std.proofs.Common.{◌≤◌, length, subst, ◌∙◌}
use Rattle.acdm_displays.specs.Displayed.{IsNext}
use Rattle.acdm_displays.proofs.Written.{begun_journal, begun_board, few_board, few_entry, on_ok}
use Rattle.acdm_displays.proofs.telling.ChangesSharing.begin.Goals as goal

pub returns-in-Entry-clause-begins : goal.returns-in-Entry-clause-begins
returns-in-Entry-clause-begins c = on_ok c.begin_journal.result (λ told room known before.
    begun_journal c.args.self.now.room room c.in-Entry.number c.args.watch.now.seen c.args.self.now.known c.args.start before _
    (known.3.room_is ∙ known.2) c.in-Entry.is
    (subst (λ s. IsNext s (length c.args.watch.now.seen)) c.in-Entry.is c.requires.next)
    (subst (λ m. c.in-Entry.number ≤ m) c.len.ensures c.if-number-len.true) (told before)) c.begin_journal.ensures.begins

pub returns-in-Entry-2-clause-begins : goal.returns-in-Entry-2-clause-begins
returns-in-Entry-2-clause-begins c = on_ok c.begin_board.result (λ told room known before.
    begun_board c.args.self.now.room room c.args.watch.now.seen c.args.self.now.known c.args.start before _
    (known.3.room_is ∙ known.2)
    (λ n is. few_entry c.args.start c.in-Entry.number c.len.result n c.args.watch.now.seen c.in-Entry.is
    c.if-number-len.false c.len.ensures is) (told before)) c.begin_board.ensures.begins

pub returns-in-Board-clause-begins : goal.returns-in-Board-clause-begins
returns-in-Board-clause-begins c = on_ok c.begin_board-in-Board.result (λ told room known before.
    begun_board c.args.self.now.room room c.args.watch.now.seen c.args.self.now.known c.args.start before _
    (known.3.room_is ∙ known.2) (λ n is. few_board c.args.start n c.args.watch.now.seen c.in-Board.is is)
    (told before)) c.begin_board-in-Board.ensures.begins
