-- What was read of a connection.
use Rattle.std.specs.Prelude.{ℕ, ◌<◌, ◌≡◌, true, List, ◌++◌, length, Bool, Result, Ok, Err}
use Rattle.acdm_failures.specs.declared.failure.Failure.TheVariants.{Memory}
use Rattle.acdm_lines.specs.Counted.{SourceView}
use Rattle.acdm_following.specs.declared.first_board.Parting.{Parting}
use Rattle.acdm_following.specs.declared.first_board.Parting.TheVariants as partings

-- a read brought these bytes, and it never failed
pub record Heard {R : Type 0} (old new : SourceView R) (more : List ℕ) : Type 0 where
  pub gave : new.log ≡ old.log ++ more
  pub well : new.faults ≡ old.faults

-- What comes of one read, whose bytes are put behind others: some were, or the connection has ended; or it failed, or
-- memory was refused for what came.
abbrev pub Hears : {R : Type 0} → SourceView R → SourceView R → List ℕ → List ℕ → Result Bool Parting → Type 0
Hears old new pending after (Ok true) =
    (more : List ℕ) × Heard old new more × (0 < length more) × (after ≡ pending ++ more)
Hears old new pending after (Ok _) =
    (new.log ≡ old.log) × (new.faults ≡ old.faults) × (new.ended ≡ true) × (after ≡ pending)
Hears old new pending after (Err partings.Read) = (new.log ≡ old.log) × (0 < new.faults) × (after ≡ pending)
Hears old new pending after (Err (partings.Failed Memory)) =
    (more : List ℕ) × Heard old new more × (after ≡ pending)
Hears old new pending after (Err _) = ⊥
