use Rattle.std.proofs.Common.{◌∙◌}
use Rattle.acdm_slots.proofs.Migrating.{if_accepted, if_refused}
use Rattle.acdm_slots.proofs.migration.judged_again.Goals as goal

pub returns-clause-kept : goal.returns-clause-kept
returns-clause-kept c = if_accepted c.args.record_length c.args.program.now c.in_ok-copy.copy
    c.sigs.result.now (c.in_ok-copy.ensures ∙ c.program.ensures.value) c.sigs.ensures.value
    c.verify.result c.verify.ensures.accepted c.verify.ensures.checked

pub returns-clause-refused : goal.returns-clause-refused
returns-clause-refused c = if_refused c.args.record_length c.args.program.now c.in_ok-copy.copy
    c.sigs.result.now (c.in_ok-copy.ensures ∙ c.program.ensures.value) c.sigs.ensures.value
    c.verify.result c.verify.ensures.refused
