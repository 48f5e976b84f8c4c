-- A keeper that is shared, and replies behind it, may be sent to other threads, where their parts may.
use denote.RattleType.{RattleType}
use denote.Ref.{NamedLft}
use denote.Param.Send.{IsSend, IsSync, sendable, view_send}
use denote.Param.SendFields.{as_row_send, declared_send, declared_sync}
use Rattle.std.proofs.Crossing.{crosses}
use Rattle.std.specs.declared.io.traits.Write as write
use Rattle.std.proofs.option.Option.TheSendSync as optional
use Rattle.std.specs.contracts.option.Option as option
use Rattle.std.specs.contracts.sync.Mutex as lock
use Rattle.acdm_confirming.proofs.confirmations.Confirmation.TheSendSync as confirmation
use Rattle.acdm_confirming.proofs.confirmed.Confirmed.TheSendSync as confirmed
use Rattle.acdm_lines.proofs.sink.Sink.TheSendSync as sink
use Rattle.acdm_row.proofs.Crossing.{row_send, row_sync}
use Rattle.acdm_watch.proofs.Crossing.{sight_send}
use Rattle.acdm_watch.specs.contracts.sight.Sight as sight
use Rattle.acdm_keeping.specs.declared.writing.Opening as opening
use Rattle.acdm_keeping.proofs.lasting.KeeperPass.TheSendSync as knowing
use Rattle.acdm_keeping.proofs.lasting.LastingReceipt.TheSendSync as lasting
use Rattle.acdm_keeping.proofs.lasting.SharedCount.TheSendSync as counting
use Rattle.acdm_keeping.proofs.progress.Progress.TheSendSync as progress
use Rattle.acdm_keeping.proofs.reach.Reach.TheSendSync as reach
use Rattle.acdm_keeping.proofs.held.HeldReplies.TheSendSync as held
use Rattle.acdm_keeping.proofs.keeper.Receipt.TheSendSync as receipt
use Rattle.acdm_keeping.specs.contracts.keeper.Keeper as keeper
use Rattle.acdm_keeping.specs.contracts.keeper.Keeper.TheInside as keeper_inside
use Rattle.acdm_keeping.specs.contracts.lasting.KeeperPass as pass
use Rattle.acdm_keeping.specs.contracts.lasting.LastingReceipt as token
use Rattle.acdm_keeping.specs.contracts.lasting.SharedCount as count
use Rattle.acdm_keeping.specs.contracts.progress.Progress as far
use Rattle.acdm_keeping.specs.contracts.backed.Backed as backed
use Rattle.acdm_keeping.specs.contracts.backed.Backed.TheInside as backed_inside
use Rattle.acdm_keeping.specs.declared.replies.EntryKeeper as entries
use Rattle.acdm_keeping.specs.contracts.writing.Writing as writing
use Rattle.acdm_keeping.specs.contracts.writing.Writing.TheInside as writing_inside
use Rattle.acdm_keeping.specs.contracts.shared.SharedKeeper as shared
use Rattle.acdm_keeping.specs.contracts.shared.Waiter as waiting
use Rattle.acdm_keeping.specs.contracts.shared.WaiterEntryKeeper.TheImpl as waits
use Rattle.std.specs.declared.sync.Wait as wait
use Rattle.std.specs.declared.time.Clock as clock
use Rattle.acdm_keeping.specs.contracts.replies.Replies as replies

keeper_parts : (F : RattleType) (o : write.Ghosts F.Denot) → IsSend F → IsSend (keeper_inside.the_row F o)
keeper_parts F o f =
    declared_send (keeper_inside.the_type F o) (
      as_row_send sight.the_field sight_send,
      (
        search (row_send, row_sync, sendable, crosses) depth 20,
        (
          search (sink.the_send, f, sendable) depth 8,
          (search (sendable, crosses) depth 20, (search sendable depth 8, (search sendable depth 8, tt))),
        ),
      ),
    )

pub keeper_send : (F : RattleType) (o : write.Ghosts F.Denot) → IsSend F → IsSend (keeper.the_row F o)
keeper_send F o f = view_send _ _ _ _ _ (keeper_parts F o f)

pass_send : (J : RattleType) (n : opening.Ghosts J.Denot) → IsSend (pass.the_row J n)
pass_send J n = search (knowing.the_send, sendable, crosses) depth 10

pub receipt_send : (J : RattleType) (n : opening.Ghosts J.Denot) → IsSend (token.the_row J n)
receipt_send J n = search (lasting.the_send, sendable, crosses) depth 10

count_send : (J : RattleType) (n : opening.Ghosts J.Denot) → IsSend (count.the_row J n)
count_send J n = search (counting.the_send, sendable, crosses) depth 10

count_sync : (J : RattleType) (n : opening.Ghosts J.Denot) → IsSync (count.the_row J n)
count_sync J n = search (counting.the_sync, sendable, crosses) depth 10

progress_send : (J : RattleType) (n : opening.Ghosts J.Denot) → IsSend (far.the_row J n)
progress_send J n = search (progress.the_send, sendable, crosses) depth 10

writing_parts : (F J : RattleType) (o : write.Ghosts F.Denot) (n : opening.Ghosts J.Denot) → IsSend F
    → IsSend (writing_inside.the_row F J o n)
writing_parts F J o n f =
    declared_send (writing_inside.the_type F J o n) (
      as_row_send (keeper.the_field F o) (keeper_send F o f),
      (as_row_send (pass.the_field J n) (pass_send J n), tt),
    )

writing_send : (F J : RattleType) (o : write.Ghosts F.Denot) (n : opening.Ghosts J.Denot) → IsSend F
    → IsSend (writing.the_row F J o n)
writing_send F J o n f = view_send _ _ _ _ _ (writing_parts F J o n f)

lock_sync : (T : RattleType) → IsSend T → IsSync (lock.the_row T)
lock_sync T t = search (t, crosses) depth 4

lock_send : (T : RattleType) → IsSend T → IsSend (lock.the_row T)
lock_send T t = search (t, crosses) depth 4

pub shared_send : (F J : RattleType) (o : write.Ghosts F.Denot) (n : opening.Ghosts J.Denot) → IsSend F
    → IsSend (shared.the_row F J o n)
shared_send F J o n f =
    let kept = lock_send _ (writing_send F J o n f) in
    let going = lock_send _ (progress_send J n) in
    declared_send (shared.the_type F J o n) (
      search (reach.the_send, sendable, crosses) depth 20,
      (
        as_row_send (count.the_field J n) (count_send J n),
        (
          search (going, sendable) depth 10,
          (
            search (sendable, crosses) depth 20,
            (search (kept, sendable) depth 10, (search (sendable, crosses) depth 20, tt)),
          ),
        ),
      ),
    )

pub shared_sync : (F J : RattleType) (o : write.Ghosts F.Denot) (n : opening.Ghosts J.Denot) → IsSend F
    → IsSync (shared.the_row F J o n)
shared_sync F J o n f =
    let kept = lock_sync _ (writing_send F J o n f) in
    let going = lock_sync _ (progress_send J n) in
    let counted = count_sync J n in
    declared_sync (shared.the_type F J o n) (
      search (reach.the_sync, sendable, crosses) depth 20,
      (
        search (counted, sendable) depth 10,
        (
          search (going, sendable) depth 10,
          (
            search (sendable, crosses) depth 20,
            (search (kept, sendable) depth 10, (search (sendable, crosses) depth 20, tt)),
          ),
        ),
      ),
    )

pub waiting_send : (κ : NamedLft) (F J Q : RattleType) (o : write.Ghosts F.Denot) (n : opening.Ghosts J.Denot) → IsSend F
    → IsSync Q → IsSend (waiting.the_row κ F J Q o n)
waiting_send κ F J Q o n f q =
    let all = shared_sync F J o n f in
    let told = receipt_send J n in
    declared_send (waiting.the_type κ F J Q o n) (
      search (q, sendable) depth 10,
      (
        search (all, sendable) depth 10,
        (
          search (confirmed.the_send, confirmed.the_sync, sendable, crosses) depth 20,
          (
            as_row_send (option.the_field (token.the_row J n)) (optional.the_field_send _ told),
            (search (confirmation.the_send, sendable) depth 10, tt),
          ),
        ),
      ),
    )

backed_send : (K : RattleType) (e : entries.Ghosts K.Denot) → IsSend K → IsSend (backed.the_row K e)
backed_send K e ks =
    view_send _ _ _ _ _ (
    declared_send (backed_inside.the_type K e) (
      search (ks, sendable) depth 8,
      (search sendable depth 8, tt),
    )
    )

pub replies_send : (K W : RattleType) (e : entries.Ghosts K.Denot) (w : write.Ghosts W.Denot) → IsSend K → IsSend W
    → IsSend (replies.the_row K W e w)
replies_send K W e w ks ws =
    declared_send (replies.the_type K W e w) (
      as_row_send (backed.the_field K e) (backed_send K e ks),
      (
        search (sink.the_send, ws, sendable) depth 8,
        (
          search (held.the_send, sendable) depth 8,
          (search sendable depth 8, (search (receipt.the_send, sendable) depth 8, tt)),
        ),
      ),
    )

-- the same of a keeper that is shared
pub kept_replies_send : (κ : NamedLft) (F J Q W : RattleType) (o : write.Ghosts F.Denot) (n : opening.Ghosts J.Denot)
    (t : wait.Ghosts Q.Denot) (k : clock.Ghosts Q.Denot) (w : write.Ghosts W.Denot) → IsSend F → IsSync Q → IsSend W
    → IsSend (replies.the_row (waiting.the_row κ F J Q o n) W
    (waits.ghosts F J Q o waits.no_dict n waits.no_dict t waits.no_dict k waits.no_dict waits.no_dict) w)
kept_replies_send κ F J Q W o n t k w f q ws =
    replies_send (waiting.the_row κ F J Q o n) W
    (waits.ghosts F J Q o waits.no_dict n waits.no_dict t waits.no_dict k waits.no_dict waits.no_dict) w
    (waiting_send κ F J Q o n f q) ws
