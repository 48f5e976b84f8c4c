use mir.Syntax.{named}
use denote.Exit.{no}
use denote.Param.{param}
use denote.Param.Send.{IsSend, param_send, arg_send, sendable}
use Rattle.std.proofs.Crossing.{crosses}
use Rattle.keeping_tests.specs.contracts.sharing.Paper as paper
use Rattle.keeping_tests.specs.contracts.sharing.PaperWrite.TheImpl as kept
use Rattle.keeping_tests.specs.contracts.sharing.Reader as reader
use Rattle.keeping_tests.specs.contracts.sharing.ReaderWrite.TheImpl as taking
use Rattle.acdm_row.proofs.Crossing.{row_send, row_sync}
use Rattle.acdm_keeping.proofs.Crossing.{kept_replies_send}
use Rattle.keeping_tests.proofs.sharing.Shelf.TheSendSync as shelf
use Rattle.keeping_tests.proofs.sharing.entries_kept.Goals as goal

paper_send : IsSend paper.the_row
paper_send = search (shelf.the_send, shelf.the_sync, row_send, row_sync, sendable, crosses) depth 30

reader_send : IsSend reader.the_row
reader_send = search (shelf.the_send, shelf.the_sync, sendable, crosses) depth 30

pub entries_after-entries-requires-send-W : goal.entries_after-entries-requires-send-W
entries_after-entries-requires-send-W g c κs within =
    let k = c.type_bounds in
    param_send 1 _ (arg_send _ no _ (kept_replies_send (record { mir = named 2; lft = κs.1.1.0 }) paper.the_row
    (param 0 g.row.J) (param 2 g.row.Rt) reader.the_row kept.ghosts g.J.Opening g.Rt.Wait g.Rt.Clock taking.ghosts paper_send
    k.sync-Rt reader_send))
