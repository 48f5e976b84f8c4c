use Rattle.std.proofs.Common.{refl, ap, subst, ◌∙◌}
use Rattle.acdm_journal.specs.Whole.{FoundFaulty, FoundUnended}
use Rattle.acdm_journal.specs.declared.judge.Clause.TheVariants.{Unreadable}
use Rattle.acdm_journal.proofs.auditing.audit.Goals as goal

pub returns-in-Rest-clause-audits : goal.returns-in-Rest-clause-audits
returns-in-Rest-clause-audits g c =
    let f = c.in-Rest.ensures.reads.0 in
    let same = ap (λ b. b.slots.sigs) c.in-Ok-new.ensures ∙ c.in-Ok.ensures in (
      subst (λ s. FoundFaulty s c.args.reader.now.log c.read_journal.new.reader.log
          c.read_journal.new.reader.ended c.in-Rest.entry Unreadable) same (f.gave, f.soon refl),
      f.well,
    )

pub returns-in-Faulty-clause-audits : goal.returns-in-Faulty-clause-audits
returns-in-Faulty-clause-audits g c =
    let f = c.in-Faulty.ensures.reads in
    let same = ap (λ b. b.slots.sigs) c.in-Ok-new.ensures ∙ c.in-Ok.ensures in (
      subst (λ s. FoundFaulty s c.args.reader.now.log c.read_journal.new.reader.log
          c.read_journal.new.reader.ended c.in-Faulty.entry c.in-Faulty.clause) same
          (f.gave, f.soon refl),
      f.well,
    )

pub returns-in-Read-clause-audits : goal.returns-in-Read-clause-audits
returns-in-Read-clause-audits g c =
    let u = c.in-Read.ensures.reads in
    let same = ap (λ b. b.slots.sigs) c.in-Ok-new.ensures ∙ c.in-Ok.ensures in
    subst (λ s. FoundUnended s c.args.reader.now.log c.read_journal.new.reader.log
    c.args.reader.now.faults c.read_journal.new.reader.faults) same (u.0, u.2 refl)
