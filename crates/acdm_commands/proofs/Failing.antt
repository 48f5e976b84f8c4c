-- Why something was not done, by the result of a call.
use Rattle.std.proofs.Common.{Bool, List, ℕ, inl}
use Rattle.acdm_failures.specs.declared.failure.Failure.{Failure}
use Rattle.acdm_failures.specs.declared.failure.Failure.TheVariants as failures
use Rattle.acdm_failures.specs.declared.failure.ServeError.{ServeError}
use Rattle.acdm_failures.specs.declared.failure.ServeError.TheVariants as serve_errors
use Rattle.acdm_lines.specs.Counted.{SinkView}
use Rattle.acdm_failures.specs.Failures.{failure_of_serve}
use Rattle.acdm_serving.specs.Partners.{FailsToTell}
use Rattle.acdm_commands.specs.Partners.{FailsToListen, FailsToSeat, FailsToServeAll}

-- partners were not served to their end, or that could not be told
pub unserved : {W : Type 0} (old new : SinkView W) (error : ServeError) → FailsToTell old new error
    → FailsToServeAll old new (failure_of_serve error)
unserved old new (serve_errors.Accept n) p = tt
unserved old new serve_errors.Write p = p
unserved old new serve_errors.Memory p = tt

-- nobody listens
pub unseated : (words : List (List ℕ)) (ticks : Bool) (failure : Failure) → FailsToListen words failure
    → FailsToSeat words ticks failure
unseated words ticks (failures.Role n) p = p
unseated words ticks (failures.Address n) p = inl p
unseated words ticks failures.Memory p = tt
unseated words ticks failures.Watch (front, word, more, split, all, fails) = absurd fails
unseated words ticks failures.Follow (front, word, more, split, all, fails) = absurd fails
unseated words ticks failures.Control (front, word, more, split, all, fails) = absurd fails
unseated words ticks failures.Log (front, word, more, split, all, fails) = absurd fails
unseated words ticks failures.Read (front, word, more, split, all, fails) = absurd fails
unseated words ticks failures.Write (front, word, more, split, all, fails) = absurd fails
unseated words ticks failures.Untold (front, word, more, split, all, fails) = absurd fails
unseated words ticks failures.Save (front, word, more, split, all, fails) = absurd fails
unseated words ticks (failures.Accept n) (front, word, more, split, all, fails) = absurd fails
unseated words ticks failures.Word (front, word, more, split, all, fails) = absurd fails
unseated words ticks failures.Stream (front, word, more, split, all, fails) = absurd fails
unseated words ticks failures.Keep (front, word, more, split, all, fails) = absurd fails
unseated words ticks failures.InUse (front, word, more, split, all, fails) = absurd fails
unseated words ticks failures.Room (front, word, more, split, all, fails) = absurd fails
unseated words ticks failures.Peer (front, word, more, split, all, fails) = absurd fails
unseated words ticks failures.Replaced (front, word, more, split, all, fails) = absurd fails
