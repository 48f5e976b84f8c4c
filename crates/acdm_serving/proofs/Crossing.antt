-- What is told of the journal, and the readers of partners that come and go, may be sent to another thread.
use Rattle.std.proofs.Common.{ℕ}
use denote.RattleType.{RattleType}
use denote.Ref.{NamedLft}
use denote.Param.{number}
use denote.Param.Send.{IsSend, IsSync, sendable, view_send}
use denote.Param.SendFields.{declared_send, variants_send}
use Rattle.std.proofs.Crossing.{crosses}
use Rattle.acdm_row.proofs.Crossing.{row_send, row_sync}
use Rattle.std.specs.declared.io.traits.Read as read
use Rattle.std.specs.declared.io.traits.Write as write
use Rattle.std.specs.declared.sync.Wait as wait
use Rattle.std.specs.declared.time.Clock as clock
use Rattle.acdm_partners.proofs.arriving.Arriving.TheSendSync as arriving
use Rattle.acdm_partners.proofs.connection.Connection.TheSendSync as connection
use Rattle.acdm_partners.specs.contracts.arriving.Arriving as of_arriving
use Rattle.acdm_partners.specs.contracts.connection.Connection as of_connection
use Rattle.acdm_partners.specs.contracts.reader.WholeLines as reader
use Rattle.acdm_partners.proofs.Crossing.{reader_send}
use Rattle.acdm_partners.proofs.replies.PartnerReplies.TheSendSync as replies
use Rattle.acdm_confirming.proofs.confirmed.Confirmed.TheSendSync as confirmed
use Rattle.acdm_keeping.proofs.Crossing.{kept_replies_send}
use Rattle.acdm_keeping.proofs.named.Named.TheSendSync as named
use Rattle.acdm_keeping.proofs.synced.Synced.TheSendSync as synced
use Rattle.acdm_keeping.proofs.term.BoardTerm.TheSendSync as term
use Rattle.acdm_keeping.specs.contracts.synced.Synced as of_synced
use Rattle.acdm_keeping.specs.contracts.replies.Replies as behind
use Rattle.acdm_keeping.specs.contracts.shared.Waiter as waiting
use Rattle.acdm_keeping.specs.contracts.shared.WaiterEntryKeeper.TheImpl as waits
use Rattle.acdm_keeping.specs.declared.writing.Opening as opening
use Rattle.acdm_serving.specs.contracts.reconnecting.Answering as answering
use Rattle.acdm_serving.specs.contracts.reconnecting.Reading as either
use Rattle.acdm_serving.specs.contracts.peer.PeerWatch as watch
use Rattle.acdm_serving.specs.contracts.tally.Tally as tally
use Rattle.acdm_serving.specs.contracts.ticks.Ticks as ticks
use Rattle.acdm_serving.specs.contracts.ticks.Ticks.TheInside as ticks_inside
use Rattle.acdm_serving.specs.contracts.ticks.Timer as timer
use Rattle.acdm_serving.specs.declared.ticks.Beat as beat

pub tally_send : (K : RattleType) → IsSend K → IsSend (tally.the_row K)
tally_send K k =
    declared_send (tally.the_type K) (
      search (k, sendable) depth 8,
      (
        search (row_send, row_sync, sendable, crosses) depth 20,
        (
          search (named.the_send, sendable, crosses) depth 20,
          (
            search (confirmed.the_send, confirmed.the_sync, sendable, crosses) depth 20,
            (search (term.the_send, sendable, crosses) depth 20, (search (sendable, crosses) depth 20, tt)),
          ),
        ),
      ),
    )

pub watch_send : (Q : RattleType) → IsSend Q → IsSend (watch.the_row Q)
watch_send Q q =
    declared_send (watch.the_type Q) (
      search (q, sendable) depth 8,
      (
        search (sendable, crosses) depth 20,
        (search (term.the_send, sendable, crosses) depth 20, (search (sendable, crosses) depth 20, tt)),
      ),
    )

pub connection_send : (κ : NamedLft) (Q : RattleType) → IsSync Q → IsSend (of_connection.the_row κ Q)
connection_send κ Q q = search (connection.the_send, q, sendable, crosses) depth 20

pub arriving_send : (κ : NamedLft) (Q : RattleType) → IsSync Q → IsSend (of_arriving.the_row κ Q)
arriving_send κ Q q = search (arriving.the_send, q, sendable, crosses) depth 20

pub reading_send : (κ κ' : NamedLft) (Q : RattleType) (n : ℕ)
    (d : read.Ghosts (of_connection.the_row κ' Q).Denot) → IsSync Q
    → IsSend (reader.the_row (of_arriving.the_row κ Q) (of_connection.the_row κ' Q) (number n) d)
reading_send κ κ' Q n d q = reader_send _ _ n d (arriving_send κ Q q) (connection_send κ' Q q)

timer_send : (κ : NamedLft) (Q : RattleType) → IsSync Q → IsSend (timer.the_row κ Q)
timer_send κ Q q =
    declared_send (timer.the_type κ Q) (
      search (q, sendable) depth 10,
      (
        search (sendable, crosses) depth 20,
        (
          search sendable depth 8,
          (
            search (sendable, crosses) depth 20,
            (search sendable depth 8, (search sendable depth 8, (search sendable depth 8, tt))),
          ),
        ),
      ),
    )

ticks_send : (B : RattleType) (d : beat.Ghosts B.Denot) → IsSend B → IsSend (ticks.the_row B d)
ticks_send B d b =
    view_send _ _ _ _ _ (
    declared_send (ticks_inside.the_type B d) (search (b, sendable) depth 8, (search sendable depth 8, tt))
    )

-- lines come from partners, or are ticks
pub either_send : (κ : NamedLft) (Q : RattleType) (w : wait.Ghosts Q.Denot) (c : clock.Ghosts Q.Denot)
    → IsSync Q → IsSend (either.the_row κ Q w c)
either_send κ Q w c q =
    variants_send (either.enum κ Q w c) (
      (reading_send κ κ Q _ _ q, tt),
      ((ticks_send (timer.the_row κ Q) _ (timer_send κ Q q), tt), tt),
    )

-- replies go to partners, or to nobody
answering_send : (κ : NamedLft) (Q : RattleType) → IsSync Q → IsSend (answering.the_row κ Q)
answering_send κ Q q =
    variants_send (answering.enum κ Q) (
      (search (replies.the_send, q, sendable, crosses) depth 20, tt),
      (tt, tt),
    )

synced_send : (Q : RattleType) → IsSend Q → IsSend (of_synced.the_row Q)
synced_send Q q = search (synced.the_send, q, sendable, crosses) depth 20

pub writing_send : (κ κ' : NamedLft) (J Q : RattleType) (o : write.Ghosts (of_synced.the_row Q).Denot)
    (n : opening.Ghosts J.Denot) (t : wait.Ghosts Q.Denot) (k : clock.Ghosts Q.Denot)
    (w : write.Ghosts (answering.the_row κ' Q).Denot) → IsSend Q → IsSync Q
    → IsSend (behind.the_row (waiting.the_row κ (of_synced.the_row Q) J Q o n) (answering.the_row κ' Q)
    (waits.ghosts (of_synced.the_row Q) J Q o waits.no_dict n waits.no_dict t waits.no_dict k waits.no_dict
    waits.no_dict) w)
writing_send κ κ' J Q o n t k w s q =
    kept_replies_send κ (of_synced.the_row Q) J Q (answering.the_row κ' Q) o n t k w (synced_send Q s) q
    (answering_send κ' Q q)
