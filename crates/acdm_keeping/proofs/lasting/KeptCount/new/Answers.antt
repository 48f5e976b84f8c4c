use Rattle.std.proofs.Common.{[], ◌∷◌, rules}
use Rattle.acdm_keeping.proofs.Knowing.{begins}
use Rattle.acdm_keeping.proofs.lasting.KeptCount.new.Goals as goal

pub ruled-requires : goal.ruled-requires
ruled-requires c = (search rules, (search rules, begins (0 ∷ [])))
