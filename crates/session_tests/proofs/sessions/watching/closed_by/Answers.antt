use denote.Exit.{no}
use denote.Param.Send.{IsSend, param_send, arg_send, sendable}
use denote.Param.SendFields.{as_row_send, declared_send}
use Rattle.std.proofs.Crossing.{crosses}
use Rattle.acdm_row.proofs.Crossing.{row_send, row_sync}
use Rattle.acdm_watch.proofs.Crossing.{watch_send}
use Rattle.acdm_watch.specs.contracts.watch.Watch as watch
use Rattle.session_tests.specs.contracts.sessions.watching.Looking as looking
use Rattle.session_tests.proofs.sessions.watching.closed_by.Goals as goal

-- a clock may be sent to the thread of its session
looking_send : IsSend looking.the_row
looking_send =
    declared_send looking.the_type (
      as_row_send watch.the_field watch_send,
      (
        search (row_send, row_sync, sendable, crosses) depth 20,
        (search sendable depth 8, (search sendable depth 8, tt)),
      ),
    )

pub run_sessions-requires-send-C : goal.run_sessions-requires-send-C
run_sessions-requires-send-C g c κs within = param_send 2 _ (arg_send _ no _ looking_send)
