-- Which of the types over entries may be sent to another thread, or lent to one.
use denote.Param.Send.{IsSend, IsSync, sendable}
use denote.Param.SendFields.{as_row_send, as_row_sync, declared_send, declared_sync}
use Rattle.std.proofs.Crossing.{crosses}
use Rattle.once_cell.proofs.race.once_box.OnceBox.TheSendSync as cell
use Rattle.once_cell.proofs.race.note.Note.TheSendSync as note
use Rattle.acdm_step.proofs.entry.Entry.TheSendSync as entry
use Rattle.bpf_helpers.proofs.sigs.Sigs.TheSendSync as sigs
use Rattle.acdm_step.specs.contracts.entry.Entry as of_entry
use Rattle.acdm_row.specs.contracts.published.Published as published
use Rattle.acdm_row.specs.contracts.row.Row as row
use Rattle.acdm_row.specs.contracts.front.Front as front
use Rattle.acdm_row.specs.contracts.pass.Pass as pass
use Rattle.acdm_row.specs.contracts.publisher.Publisher as publisher

pub published_send : IsSend published.the_row
published_send = declared_send published.the_type (
  as_row_send of_entry.the_field
      entry.the_field_send,
  (search (sendable, crosses) depth 20, tt),
)

pub published_sync : IsSync published.the_row
published_sync = declared_sync published.the_type (
  as_row_sync of_entry.the_field
      entry.the_field_sync,
  (search (sendable, crosses) depth 20, tt),
)

pub row_send : IsSend row.the_row
row_send = search (published_send, cell.the_send, sigs.the_send, sendable, crosses) depth 20

pub row_sync : IsSync row.the_row
row_sync = search (
  published_send,
  published_sync,
  cell.the_sync,
  sigs.the_sync,
  sendable,
  crosses,
) depth 20

pub front_send : IsSend front.the_row
front_send = search (row_send, row_sync, note.the_send, sendable, crosses) depth 20

pub pass_send : IsSend pass.the_row
pass_send = search (front_send, sendable, crosses) depth 20

pub publisher_send : IsSend publisher.the_row
publisher_send = search (front_send, row_send, row_sync, sendable, crosses) depth 20
