use Rattle.acdm_sessions.proofs.Announcing.{made_by}
use Rattle.acdm_sessions.proofs.answer.DeskAnswerer.answer.Goals as goal

pub returns-clause-answers : goal.returns-clause-answers
returns-clause-answers g c = c.answer_line.ensures

pub returns-clause-made : goal.returns-clause-made
returns-clause-made g c =
    made_by c.args.self.now c.answer_line.new.desk c.args.line.now c.answer_line.result c.answer_line.ensures
