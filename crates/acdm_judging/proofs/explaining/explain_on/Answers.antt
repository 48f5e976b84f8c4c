use Rattle.std.proofs.Common.{Err, inl, inr, refl}
use Rattle.acdm_failures.specs.declared.failure.Failure.TheVariants.{Memory}
use Rattle.acdm_judging.proofs.explaining.explain_on.Goals as goal

pub returns-in-Err-Memory : goal.returns-in-Err-Memory
returns-in-Err-Memory g c =
    inl (record { work = Err Memory; comes = inr refl; ends = c.ended.ensures })
