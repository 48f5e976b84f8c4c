-- Which of the types of a watch may be sent to another thread.
use denote.Param.Send.{IsSend, sendable}
use Rattle.std.proofs.Crossing.{crosses}
use Rattle.once_cell.proofs.race.note.Note.TheSendSync as note
use Rattle.acdm_row.proofs.Crossing.{front_send}
use Rattle.acdm_step.proofs.state.Core.TheSendSync as core
use Rattle.acdm_watch.specs.contracts.sight.Sight as sight
use Rattle.acdm_watch.specs.contracts.watch.Watch as watch

pub sight_send : IsSend sight.the_row
sight_send = search (front_send, note.the_send, sendable, crosses) depth 20

pub watch_send : IsSend watch.the_row
watch_send = search (sight_send, core.the_send, sendable, crosses) depth 20
