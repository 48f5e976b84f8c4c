use Rattle.std.specs.Prelude.{ℕ, Option}
use Rattle.std.specs.List.{All}
use Rattle.std.specs.Vec.Iter.{into_iter_items}
use Rattle.acdm_keeping.specs.Behind.{IsLater}
use Rattle.acdm_keeping.specs.HandedOn.{IsHandedBy}
use Rattle.acdm_serving.proofs.handed.latest_receipt.Given as goal

-- with a receipt that is for no fewer, and for what was handed on by those that are left, all are
abbrev pub invariant-loop-session : goal.invariant-loop-session
invariant-loop-session g l = record {
  all : (final : Option ℕ) → IsLater l.latest final
      → All (λ e. IsHandedBy e.writer.inner final) (into_iter_items l.session-iterator)
      → All (λ e. IsHandedBy e.writer.inner final) l.fn.sessions.items;
}
