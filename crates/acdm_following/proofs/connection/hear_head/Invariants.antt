use Rattle.std.proofs.Common.{◌≡◌, ◌-◌, length}
use Rattle.acdm_following.proofs.connection.hear_head.Given as goal

abbrev pub invariant-head : goal.invariant-head
invariant-head g l = record { same : l.source.log ≡ l.hearing.pending; well : l.source.faults ≡ 0 }

abbrev pub decreases-head : goal.decreases-head
decreases-head g l = 257 - length l.hearing.pending
