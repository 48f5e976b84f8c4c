use Rattle.acdm_tables.proofs.Promised.{turn_round_promised}
use Rattle.acdm_tables.proofs.helpers.turn_round_answer.Goals as goal

pub returns-clause-promised : goal.returns-clause-promised
returns-clause-promised c =
    turn_round_promised c.args.tables.now c.args.arguments c.turn_round_minutes.result
    c.turn_round_minutes.ensures.right c.requires c.turn_round_minutes.ensures.value
