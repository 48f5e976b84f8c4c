-- What was read of a file, of which no more bytes are of use than so many.
use Rattle.std.specs.Prelude.{ℕ, ◌≡◌, ◌<◌, ◌⊎◌, true, List, ◌++◌, length}
use Rattle.acdm_lines.specs.Counted.{SourceView, faults_after}
use Rattle.acdm_judging.specs.declared.bytes.BytesError.{BytesError}
use Rattle.acdm_judging.specs.declared.bytes.BytesError.TheVariants.{Read, Memory}

-- no program has more bytes
abbrev pub most_bytes : ℕ
most_bytes = 32768

-- a reader that did not fail gave these bytes, to its end or until they were more than so many
pub record GaveBytes {R : Type 0} (most : ℕ) (old new : SourceView R) (bytes : List ℕ) : Type 0 where
  pub gave : new.log ≡ old.log ++ bytes
  pub enough : (new.ended ≡ true) ⊎ (most < length bytes)
  pub well : new.faults ≡ old.faults

-- why a reader gave none: an error of it is one fault more
abbrev pub FailsToGive : {R : Type 0} → SourceView R → SourceView R → BytesError → Type 0
FailsToGive old new (Read error) = new.faults ≡ faults_after true old.faults
FailsToGive old new Memory = Unit {0}
