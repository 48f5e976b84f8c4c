-- A desk may be sent to another thread, where its helpers may.
use denote.RattleType.{RattleType}
use denote.Param.Send.{IsSend, sendable, view_send}
use denote.Param.SendFields.{as_row_send, declared_send}
use Rattle.std.proofs.Crossing.{crosses}
use Rattle.acdm_step.proofs.state.Core.TheSendSync as core
use Rattle.acdm_row.proofs.Crossing.{publisher_send, pass_send, row_send, row_sync}
use Rattle.bpf_helpers.specs.declared.helpers.Helpers as helpers
use Rattle.acdm_board.specs.contracts.book.Book as book
use Rattle.acdm_board.specs.contracts.passes.Passes as passes
use Rattle.acdm_board.specs.contracts.desk.Desk as desk
use Rattle.acdm_board.specs.contracts.desk.Desk.TheInside as inside

book_send : IsSend book.the_row
book_send = search (publisher_send, core.the_send, sendable, crosses) depth 20

passes_send : IsSend passes.the_row
passes_send = search (pass_send, row_send, row_sync, sendable, crosses) depth 20

fields_send : (H : RattleType) (g : helpers.Ghosts H.Denot) → IsSend H → IsSend (inside.the_row H g)
fields_send H g h =
    declared_send (inside.the_type H g) (
      search (h, sendable) depth 8,
      (
        search (book_send, sendable, crosses) depth 20,
        (as_row_send passes.the_field passes_send, tt),
      ),
    )

pub desk_send : (H : RattleType) (g : helpers.Ghosts H.Denot) → IsSend H → IsSend (desk.the_row H g)
desk_send H g h = view_send _ _ _ _ _ (fields_send H g h)
