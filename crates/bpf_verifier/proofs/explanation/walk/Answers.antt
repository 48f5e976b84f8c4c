use Rattle.std.proofs.Common.{◌≡◌, ℕ, None, sym, ap, ◌∙◌}
use Rattle.std.specs.Prelude.{option_map}
use Rattle.bpf_verifier.specs.Verdict.{code_of}
use Rattle.bpf_verifier.proofs.PassLemmas.{begins, found, goes_on, none_known, one_known, op_in}
use Rattle.bpf_verifier.proofs.explanation.walk.Goals as goal

pub loop-slot-init : goal.loop-slot-init
loop-slot-init c =
    let law = c.one_pass_is_enough.ensures in
    let passed = begins c.args.record_length c.args.ops.now c.args.sigs.now
    (law.start c.args.record_length c.args.ops.now c.args.sigs.now)
    (law.empty c.args.record_length c.args.ops.now c.args.sigs.now) c.requires.some in
    (rw c.requires.table passed, c.requires.none ∙ sym (none_known c.args.record_length c.args.ops.now c.args.sigs.now))

pub returns-in-Some-clause-verdict : goal.returns-in-Some-clause-verdict
returns-in-Some-clause-verdict c =
    let at = op_in c.args.ops.now c.loop-slot.slot c.loop-slot-test.true in
    found c.args.record_length c.args.ops.now c.args.sigs.now c.loop-slot.slot _ c.loop-slot.waiting at.0
    c.loop-slot.invariant.0 c.loop-slot-test.true at.1
    (sym (ap (option_map code_of) c.in-Some.is) ∙ (c.in_ok-fault.ensures at.0 at.1).found)

pub returns-in-Some-clause-states : goal.returns-in-Some-clause-states
returns-in-Some-clause-states c =
    rw c.in_ok-push.ensures.items
    (one_known c.args.record_length c.args.ops.now c.args.sigs.now c.loop-slot.slot c.loop-slot.waiting
    c.loop-slot.known.items c.in_ok-copy.field-0 c.loop-slot.invariant.0 c.loop-slot-test.true
    c.loop-slot.invariant.1 c.in_ok-copy.ensures)

pub loop-slot-preserved : goal.loop-slot-preserved
loop-slot-preserved c =
    let at = op_in c.args.ops.now c.loop-slot.slot c.loop-slot-test.true in
    let passes = c.in_ok-fault.ensures at.0 at.1 in
    let none : option_map code_of c.in_ok-fault.field-0 ≡ None = ap
    (option_map code_of) c.in_default.is in
    let law = c.one_pass_is_enough.ensures in
    let step = λ (to : ℕ). law.step c.args.record_length c.args.ops.now c.args.sigs.now c.loop-slot.slot to in (
      rw (passes.sent_all none)
          (goes_on c.args.record_length c.args.ops.now c.args.sigs.now c.loop-slot.slot c.loop-slot.waiting at.0 step
          c.loop-slot.invariant.0 c.loop-slot-test.true at.1 (sym passes.found ∙ none)),
      rw c.in_ok-push.ensures.items
          (one_known c.args.record_length c.args.ops.now c.args.sigs.now c.loop-slot.slot c.loop-slot.waiting
          c.loop-slot.known.items c.in_ok-copy.field-0 c.loop-slot.invariant.0 c.loop-slot-test.true
          c.loop-slot.invariant.1 c.in_ok-copy.ensures),
    )
