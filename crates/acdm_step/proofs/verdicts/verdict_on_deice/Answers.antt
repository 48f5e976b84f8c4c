use Rattle.std.proofs.Common.{sym, ◌∙◌}
use Rattle.acdm_step.proofs.Long.{second_layout}
use Rattle.acdm_step.proofs.verdicts.verdict_on_deice.Goals as goal

pub admit_deicing-requires : goal.admit_deicing-requires
admit_deicing-requires c = second_layout c.args.record_length c.args.record.now
    (sym c.is.ensures.value ∙ c.if-is.false) c.requires.long
