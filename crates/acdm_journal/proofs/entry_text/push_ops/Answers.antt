use Rattle.std.proofs.Common.{◌≡◌, ◌∷◌, ◌++◌, ap, subst, rules, ◌∙◌}
use Rattle.std.specs.List.{AllByRecursion}
use Rattle.hex.specs.Hex.{encode_lower}
use Rattle.bpf_decode.specs.Encoding.{encoding}
use Rattle.acdm_journal.specs.Ranges.{IsByte}
use Rattle.acdm_journal.proofs.Digits.{digits-op, digits-last, bytes-op, bytes-none}
use Rattle.acdm_journal.proofs.entry_text.push_ops.Goals as goal

pub loop-op-preserved : goal.loop-op-preserved
loop-op-preserved c =
    let first : c.loop-op.rest.now ≡ c.in-Some.op.now ∷ c.in-Some.more.now = search rules in
    let bytes = c.as_slice.ensures.value ∙ c.encode_op.ensures in
    record {
      before = search rules;
      adds = digits-op c.args.text.now.added c.loop-op.text.added c.push_digits.new.text.added
          (encoding c.args.ops.now) c.in-Some.op.now c.loop-op.rest.now c.in-Some.more.now first
          (c.in_ok-push_digits.ensures.adds ∙ ap (λ b. c.loop-op.text.added ++ encode_lower b) bytes)
          c.loop-op.invariant.adds;
      ranges = λ others.
          c.loop-op.invariant.ranges (bytes-op c.in-Some.op.now c.loop-op.rest.now
          c.in-Some.more.now first
          (subst (λ b. AllByRecursion IsByte b) bytes c.push_digits.ensures.ranges) others);
    }

pub returns : goal.returns
returns c = record {
  before = c.loop-op.invariant.before;
  adds = digits-last c.loop-op.text.added _ c.loop-op.rest.now c.in_default.ensures.cases
      c.loop-op.invariant.adds;
  ranges = c.loop-op.invariant.ranges
      (bytes-none c.loop-op.rest.now c.in_default.ensures.cases);
}
