use Rattle.std.specs.Prelude.{is_some}
use Rattle.acdm_keeping.specs.HandedOn.{IsHandedBy}
use Rattle.acdm_serving.proofs.HandedOn.{all_before, handed_later}
use Rattle.acdm_serving.proofs.handed.latest_receipt.Goals as goal

pub loop-session-preserved : goal.loop-session-preserved
loop-session-preserved g c = record {
  all = λ final later left.
      let session = c.in-Some.session in
      let replies = session.writer.inner in
      let told = c.later-latest.ensures in
      c.loop-session.invariant.all final (λ n within. later n (told.one n within))
      (all_before (λ e. IsHandedBy e.writer.inner final) session _ _ c.in-Some.ensures.steps.0
      (handed_later (is_some replies.backed.keeper.keeper) replies.backed.handed c.receipt_of.result final
      c.receipt_of.ensures (λ n within. later n (told.other n within)))
      left);
}
