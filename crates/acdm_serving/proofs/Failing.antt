-- Why something was not told, by the result of a call.
use Rattle.std.proofs.Common.{Result, Ok, Err, IfErr}
use Rattle.acdm_failures.specs.declared.failure.ServeError.{ServeError}
use Rattle.acdm_failures.specs.declared.failure.ServeError.TheVariants as serve_errors
use Rattle.acdm_lines.specs.Counted.{SinkView}
use Rattle.acdm_serving.specs.Partners.{FailsToTell, IsOfAccepting}

pub untold_error : {W : Type 0} (old new : SinkView W) (error : ServeError) → IsOfAccepting error
    → FailsToTell old new error
untold_error old new (serve_errors.Accept n) p = tt
untold_error old new serve_errors.Write p = absurd p
untold_error old new serve_errors.Memory p = tt

pub untold : {W T : Type 0} (old new : SinkView W) (result : Result T ServeError)
    → IfErr result IsOfAccepting → IfErr result (FailsToTell old new)
untold old new (Ok x) p = p
untold old new (Err error) p = untold_error old new error p
