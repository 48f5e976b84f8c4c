use Rattle.acdm_step.proofs.Told.{refused_so, told_accepted}
use Rattle.acdm_step.proofs.entry.Entry.outcome.Goals as goal

pub returns-in-Accepted-clause-value : goal.returns-in-Accepted-clause-value
returns-in-Accepted-clause-value c =
    told_accepted c.answer.result c.args.before.now c.args.self.now c.in-Accepted.is
    c.answer.ensures.value

pub returns-in-Refused-clause-value : goal.returns-in-Refused-clause-value
returns-in-Refused-clause-value c sigs J legal at =
    refused_so sigs J c.args.self.now legal c.in-Refused.refusal c.in-Refused.is
