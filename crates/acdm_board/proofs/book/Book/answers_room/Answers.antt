use Rattle.std.proofs.Common.{◌≡◌, reverse, subst}
use Rattle.acdm_step.specs.InSlots.{answers_room}
use Rattle.acdm_board.specs.Desk.{DeskView}
use Rattle.acdm_board.proofs.book.Book.answers_room.Goals as goal

pub returns : goal.returns
returns c =
    subst (λ (d : DeskView). c.answers_room.result ≡ answers_room d.history c.args.command.now)
    c.self.view_is
    (c.answers_room.ensures c.self.inside.core.slots.sigs (reverse c.self.inside.journal.entries)
    c.self.invariant.keeps.replays)
