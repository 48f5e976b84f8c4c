use Rattle.std.proofs.Common.{ap, ◌∙◌}
use Rattle.bpf_helpers.specs.Same.{same_sigs}
use Rattle.bpf_helpers.proofs.SameSigs.{is_same_sigs}
use Rattle.acdm_step.proofs.command.Load.was_checked.Goals as goal

pub returns-clause-value : goal.returns-clause-value
returns-clause-value c =
    is_same_sigs c.is_same.result c.sigs.result.now c.args.sigs.now c.is_same.ensures
    ∙ ap (λ s. same_sigs s c.args.sigs.now) c.sigs.ensures.value
