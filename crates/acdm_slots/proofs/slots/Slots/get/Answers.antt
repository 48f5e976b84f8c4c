use Rattle.std.proofs.Common.{subst}
use Rattle.acdm_slots.specs.Loaded.{AreFit}
use Rattle.acdm_slots.proofs.slots.Slots.get.Goals as goal

pub returns-clause-fit : goal.returns-clause-fit
returns-clause-fit c = subst AreFit c.self.view_is c.self.invariant.fit
