-- The tasks of displays may be sent to other threads.
use denote.RattleType.{RattleType}
use denote.Param.Send.{IsSend, sendable}
use denote.Param.SendFields.{declared_send}
use Rattle.std.proofs.Crossing.{crosses}
use Rattle.acdm_row.proofs.Crossing.{row_send, row_sync}
use Rattle.acdm_confirming.proofs.confirmed.Confirmed.TheSendSync as confirmed
use Rattle.acdm_keeping.proofs.reach.Reach.TheSendSync as reach
use Rattle.acdm_keeping.proofs.term.BoardTerm.TheSendSync as term
use Rattle.acdm_displays.proofs.asked.DisplayRequest.TheSendSync as asked
use Rattle.acdm_displays.proofs.asked.Start.TheSendSync as start
use Rattle.acdm_displays.proofs.places.Shared.TheSendSync as shared
use Rattle.acdm_displays.proofs.displays.DisplayKind.TheSendSync as kind
use Rattle.acdm_displays.specs.contracts.displays.Admission as admission
use Rattle.acdm_displays.specs.contracts.displays.FeedHearing as hearing
use Rattle.acdm_displays.specs.contracts.displays.Resuming as resuming
use Rattle.acdm_displays.specs.contracts.displays.Showing as showing
use Rattle.acdm_displays.specs.contracts.places.DisplayPlace as place
use Rattle.acdm_displays.specs.contracts.sharing.FeedRequest as request

place_send : IsSend place.the_row
place_send =
    declared_send place.the_type
    (search (shared.the_send, shared.the_sync, sendable, crosses) depth 20, tt)

pub request_send : IsSend request.the_row
request_send =
    declared_send request.the_type (
      search (start.the_send, sendable, crosses) depth 12,
      (place_send, (search (sendable, crosses) depth 12, (search (sendable, crosses) depth 12, tt))),
    )

pub showing_send : IsSend showing.the_row
showing_send =
    declared_send showing.the_type (
      search sendable depth 8,
      (
        search (row_send, row_sync, sendable, crosses) depth 20,
        (
          search (reach.the_send, sendable, crosses) depth 20,
          (
            search (term.the_send, sendable, crosses) depth 20,
            (
              search (asked.the_send, sendable, crosses) depth 12,
              (place_send, (search (sendable, crosses) depth 12, tt)),
            ),
          ),
        ),
      ),
    )

pub resuming_send : IsSend resuming.the_row
resuming_send =
    declared_send resuming.the_type (
      search sendable depth 8,
      (
        search (row_send, row_sync, sendable, crosses) depth 20,
        (
          search (reach.the_send, sendable, crosses) depth 20,
          (search (kind.the_send, sendable, crosses) depth 12, (request_send, tt)),
        ),
      ),
    )

pub hearing_send : IsSend hearing.the_row
hearing_send =
    declared_send hearing.the_type (
      search sendable depth 8,
      (
        search (kind.the_send, sendable, crosses) depth 12,
        (
          search (sendable, crosses) depth 20,
          (place_send, (search (sendable, crosses) depth 12, tt)),
        ),
      ),
    )

pub admission_send : (K : RattleType) → IsSend K → IsSend (admission.the_row K)
admission_send K k =
    declared_send (admission.the_type K) (
      search (k, sendable) depth 8,
      (
        search sendable depth 8,
        (
          search (row_send, row_sync, sendable, crosses) depth 20,
          (
            search (reach.the_send, sendable, crosses) depth 20,
            (
              search (kind.the_send, sendable, crosses) depth 12,
              (
                search (confirmed.the_send, confirmed.the_sync, sendable, crosses) depth 20,
                (
                  search (term.the_send, sendable, crosses) depth 20,
                  (
                    search (shared.the_send, shared.the_sync, sendable, crosses) depth 20,
                    (search (sendable, crosses) depth 12, tt),
                  ),
                ),
              ),
            ),
          ),
        ),
      ),
    )
