-- What a writer took of a text.
use Rattle.std.specs.Prelude.{ℕ, ◌≡◌, true, List, ◌++◌, take, Result, Ok, Err}
use Rattle.acdm_lines.specs.declared.run_error.RunError.{RunError}
use Rattle.acdm_lines.specs.declared.run_error.RunError.TheVariants as errors
use Rattle.acdm_lines.specs.Counted.{SinkView, faults_after}

-- a log grew by some of the first of these bytes, at most all
abbrev pub AppendsPart : List ℕ → List ℕ → List ℕ → Type 0
AppendsPart old new bs = (n : ℕ) × (new ≡ old ++ take n bs)

-- all of a text was written
pub record Wrote {W : Type 0} (old new : SinkView W) (text : List ℕ) : Type 0 where
  pub wrote : new.log ≡ old.log ++ text
  pub same : new.first ≡ old.first
  pub told : new.told ≡ old.told
  pub well : new.faults ≡ old.faults

-- the writer failed once more, after some of the first bytes of a text, at most all
pub record WroteInPart {W : Type 0} (old new : SinkView W) (text : List ℕ) (error : RunError)
    : Type 0 where
  pub wrote : AppendsPart old.log new.log text
  pub same : new.first ≡ old.first
  pub told : new.told ≡ old.told
  pub fault : new.faults ≡ faults_after true old.faults
  pub kind : error ≡ errors.Write

-- what comes of writing a text
abbrev pub Writes : {W T : Type 0} → SinkView W → SinkView W → List ℕ → Result T RunError → Type 0
Writes old new text (Ok x) = Wrote old new text
Writes old new text (Err e) = WroteInPart old new text e
