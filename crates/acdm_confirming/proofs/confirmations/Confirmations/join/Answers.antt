use Rattle.std.proofs.Common.{arith, refl}
use Rattle.acdm_confirming.proofs.Free.{free_at}
use Rattle.acdm_confirming.proofs.confirmations.Confirmations.join.Goals as goal

pub returns-clause-joins : goal.returns-clause-joins
returns-clause-joins c = (search arith, rw c.first_free-at.ensures.free (free_at c.args.self.now.places (search arith)), refl)
