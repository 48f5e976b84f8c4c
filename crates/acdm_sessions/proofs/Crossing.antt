-- What lies under the lock may be sent to another thread, and so may the work of a session.
use denote.RattleType.{RattleType}
use denote.Ref.{NamedLft}
use denote.Param.Send.{IsSend, IsSync, sendable}
use denote.Param.SendFields.{as_row_send, declared_send}
use Rattle.std.proofs.Crossing.{crosses}
use Rattle.std.specs.contracts.sync.Mutex as lock
use Rattle.std.proofs.sync.ledger.Book.TheSendSync as book
use Rattle.std.proofs.sync.ledger.Share.TheSendSync as share
use Rattle.std.specs.declared.sync.ledger.Ledger as ledger
use Rattle.bpf_helpers.specs.declared.helpers.Helpers as helpers
use Rattle.bpf_helpers.proofs.sigs.Sigs.TheSendSync as sigs
use Rattle.bpf_helpers.specs.contracts.sigs.Sigs as of_sigs
use Rattle.acdm_milestones.proofs.role.Role.TheSendSync as role
use Rattle.std.specs.declared.io.traits.Read as read
use Rattle.acdm_lines.specs.declared.reply_writer.ReplyWriter as reply_writer
use Rattle.std.specs.declared.io.traits.Write as write
use Rattle.acdm_lines.proofs.sink.Sink.TheSendSync as sink
use Rattle.acdm_lines.proofs.source.Source.TheSendSync as source
use Rattle.acdm_row.proofs.Crossing.{pass_send}
use Rattle.acdm_row.specs.contracts.pass.Pass as pass
use Rattle.acdm_board.proofs.Crossing.{desk_send}
use Rattle.acdm_board.specs.contracts.desk.Desk as desk
use Rattle.acdm_sessions.specs.declared.locked.Naming as naming
use Rattle.acdm_sessions.specs.contracts.locked.Locked as locked
use Rattle.acdm_sessions.specs.contracts.session.Caller as caller
use Rattle.acdm_sessions.specs.contracts.session.Seat as seat
use Rattle.acdm_sessions.specs.contracts.session.Served as served
use Rattle.acdm_sessions.specs.contracts.at_desk.Work as work

locked_send : (H L : RattleType) (g : helpers.Ghosts H.Denot) (n : naming.Ghosts L.Denot)
    (l : ledger.Ghosts L.Denot) → IsSend H → IsSend (locked.the_row H L g n l)
locked_send H L g n l h =
    declared_send (locked.the_type H L g n l) (
      as_row_send (desk.the_field H g) (desk_send H g h),
      (
        search (book.the_send, sendable) depth 8,
        tt,
      ),
    )

lock_sync : (T : RattleType) → IsSend T → IsSync (lock.the_row T)
lock_sync T t = search (t, crosses) depth 4

caller_send : (C L : RattleType) (n : naming.Ghosts L.Denot) (l : ledger.Ghosts L.Denot)
    → IsSend C → IsSend (caller.the_row C L n l)
caller_send C L n l c =
    declared_send (caller.the_type C L n l) (
      search sendable depth 8,
      (
        search (role.the_send, sendable) depth 8,
        (
          search (c, sendable) depth
              8,
          (
            as_row_send of_sigs.the_field sigs.the_send,
            (
              search sendable depth 8,
              (
                search (share.the_send, sendable) depth 8,
                (as_row_send pass.the_field pass_send, tt),
              ),
            ),
          ),
        ),
      ),
    )

seat_send : (R W C L : RattleType) (d : read.Ghosts R.Denot) (o : reply_writer.Ghosts W.Denot) (p : write.Ghosts W.Denot)
    (n : naming.Ghosts L.Denot) (l : ledger.Ghosts L.Denot)
    → IsSend R → IsSend W → IsSend C → IsSend (seat.the_row R W C L d o p n l)
seat_send R W C L d o p n l r w c =
    declared_send (seat.the_type R W C L d o p n l) (
      search sendable depth 8,
      (
        search (role.the_send, sendable) depth 8,
        (
          caller_send C L n l c,
          (
            search (source.the_send, r, sendable) depth 8,
            (search (sink.the_send, w, sendable) depth 8, tt),
          ),
        ),
      ),
    )

pub served_send : (R W C L : RattleType) (d : read.Ghosts R.Denot) (o : reply_writer.Ghosts W.Denot) (p : write.Ghosts W.Denot)
    (n : naming.Ghosts L.Denot) (l : ledger.Ghosts L.Denot)
    → IsSend R → IsSend W → IsSend C → IsSend (served.the_row R W C L d o p n l)
served_send R W C L d o p n l r w c =
    declared_send (served.the_type R W C L d o p n l) (
      search sendable depth 8,
      (
        search (role.the_send, sendable) depth 8,
        (
          caller_send C L n l c,
          (
            search (source.the_send, r, sendable) depth 8,
            (
              search (sink.the_send, w, sendable) depth 8,
              (search sendable depth 12, tt),
            ),
          ),
        ),
      ),
    )

pub work_send : (κ : NamedLft) (R W C H L G Q : RattleType) (d : read.Ghosts R.Denot)
    (o : reply_writer.Ghosts W.Denot) (p : write.Ghosts W.Denot) (g : helpers.Ghosts H.Denot) (n : naming.Ghosts L.Denot)
    (l : ledger.Ghosts L.Denot) → IsSend R → IsSend W → IsSend C
    → IsSend H → IsSync G → IsSync Q → IsSend (work.the_row κ R W C H L G Q d o p g n l)
work_send κ R W C H L G Q d o p g n l r w c h s q =
    let shared = lock_sync _ (locked_send H L g n l h) in
    declared_send (work.the_type κ R W C H L G Q d o p g n l) (
      search (q, sendable) depth 10,
      (
        search sendable depth 10,
        (
          search (shared, sendable) depth 10,
          (
            search (s, sendable) depth 10,
            (seat_send R W C L d o p n l r w c, tt),
          ),
        ),
      ),
    )
