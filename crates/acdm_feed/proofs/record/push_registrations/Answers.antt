use Rattle.std.proofs.Common.{ap, ◌∙◌, ◌++◌, append_assoc, codes}
use Rattle.acdm_record.specs.declared.field.TextField.TheVariants.{PlanRegistration}
use Rattle.acdm_record.specs.declared.field.TextField.TheVariants.{ScheduledRegistration}
use Rattle.acdm_record.specs.Fields.{text_of}
use Rattle.acdm_feed.specs.Names.{text_member}
use Rattle.acdm_feed.proofs.record.push_registrations.Goals as goal

pub returns-clause-adds : goal.returns-clause-adds
unfolding Rattle.acdm_feed.specs.Records.registrations text_member
returns-clause-adds c =
    c.in_ok-push_text_of-2.ensures.adds
    ∙ ap (λ l. l ++ text_member (codes "plan_reg") (text_of c.args.record.now PlanRegistration))
    c.in_ok-push_text_of.ensures.adds
    ∙ append_assoc c.args.line.now.tokens
    (text_member (codes "scheduled_reg") (text_of c.args.record.now ScheduledRegistration)) _
