-- What came of a line, by the answer to it.
use Rattle.acdm_milestones.specs.Codes.{refusal_code}
use Rattle.acdm_partners.specs.declared.counts.LineOutcome.{LineOutcome}
use Rattle.acdm_partners.specs.declared.counts.LineOutcome.TheVariants.{Entered, Refused, Bad}
use Rattle.acdm_sessions.specs.declared.answer.Answer.{Answer}
use Rattle.acdm_sessions.specs.declared.answer.Answer.TheVariants as answers
use Rattle.acdm_step.specs.declared.outcome.Outcome.{Outcome}
use Rattle.acdm_step.specs.declared.outcome.Outcome.TheVariants as outcomes
use Rattle.acdm_wire.specs.Codes.{bad_code}

-- an entry, which may be refused; or none, where the line is bad
abbrev pub entered : Outcome → LineOutcome
entered (outcomes.Refused refusal) = Refused (refusal_code refusal)
entered outcome = Entered

abbrev pub outcome_of : Answer → LineOutcome
outcome_of (answers.Entered reply) = entered reply.outcome
outcome_of (answers.Rejected bad) = Bad (bad_code bad)
