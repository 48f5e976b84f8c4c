use Rattle.std.proofs.Common.{inr}
use Rattle.acdm_commands.proofs.Told.{answers_some, unkept_by}
use Rattle.acdm_commands.proofs.run_command.answer_kept.Goals as goal

pub returns-clause-stops : goal.returns-clause-stops
returns-clause-stops g c =
    inr (inr (
      rw c.of_keeping.ensures (unkept_by c.in-Err.failure c.in-Err.ensures.failed),
      answers_some c.args.desk.now c.answer_behind-served.new.desk c.args.input.now c.answer_behind-served.new.input
          c.args.output.now c.answer_behind-served.new.output c.answer_behind-served.result
          c.answer_behind-served.ensures.serves c.answer_behind-served.ensures.stops,
    ))
