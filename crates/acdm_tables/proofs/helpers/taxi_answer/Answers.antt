use Rattle.acdm_tables.proofs.Promised.{taxi_promised}
use Rattle.acdm_tables.proofs.helpers.taxi_answer.Goals as goal

pub returns-clause-promised : goal.returns-clause-promised
returns-clause-promised c =
    taxi_promised c.args.tables.now c.args.arguments c.taxi_minutes.result
    c.taxi_minutes.ensures.right c.requires c.taxi_minutes.ensures.value
