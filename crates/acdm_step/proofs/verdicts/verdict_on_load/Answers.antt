use Rattle.std.proofs.Common.{ap, sym, ◌∙◌}
use Rattle.bpf_helpers.specs.Same.{same_sigs}
use Rattle.bpf_helpers.proofs.SameSigs.{is_same_sigs}
use Rattle.bpf_regstate.specs.Lengths.{same_length}
use Rattle.acdm_step.proofs.Planned.{other_is_refused, same_is_loaded}
use Rattle.acdm_step.proofs.verdicts.verdict_on_load.Goals as goal

pub returns-then-not-is_same-clause-value : goal.returns-then-not-is_same-clause-value
returns-then-not-is_same-clause-value c =
    other_is_refused c.args.role c.args.slots.now.sigs c.args.slots.now.record_length
    c.args.load.now.program (sym c.owns.ensures ∙ c.if-not-owns.false)
    (ap (λ r. same_length r c.args.slots.now.record_length) (sym c.record_length.ensures)
    ∙ ap (λ r. same_length c.record_length.result r) (sym c.record_length-2.ensures)
    ∙ sym c.is.ensures.value ∙ c.if-not-is.false)
    (ap (λ s. same_sigs s c.args.slots.now.sigs) (sym c.sigs.ensures.value)
    ∙ ap (λ s. same_sigs c.sigs.result.now s) (sym c.sigs-2.ensures.value)
    ∙ sym (is_same_sigs c.is_same.result c.sigs.result.now c.sigs-2.result.now c.is_same.ensures)
    ∙ c.if-not-is_same.true)

pub returns-clause-value : goal.returns-clause-value
returns-clause-value c =
    same_is_loaded c.args.role c.args.slots.now.sigs c.args.slots.now.record_length
    c.args.load.now.program (sym c.owns.ensures ∙ c.if-not-owns.false)
    (ap (λ r. same_length r c.args.slots.now.record_length) (sym c.record_length.ensures)
    ∙ ap (λ r. same_length c.record_length.result r) (sym c.record_length-2.ensures)
    ∙ sym c.is.ensures.value ∙ c.if-not-is.false)
    (ap (λ s. same_sigs s c.args.slots.now.sigs) (sym c.sigs.ensures.value)
    ∙ ap (λ s. same_sigs c.sigs.result.now s) (sym c.sigs-2.ensures.value)
    ∙ sym (is_same_sigs c.is_same.result c.sigs.result.now c.sigs-2.result.now c.is_same.ensures)
    ∙ c.if-not-is_same.false)
