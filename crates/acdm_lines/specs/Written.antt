-- What a writer took of a text.
use Rattle.std.specs.Prelude.{ℕ, ◌≡◌, ◌≤◌, true, List, ◌++◌, take, Result, Ok, Err}
use Rattle.acdm_lines.specs.Counted.{SinkView, faults_after}
use Rattle.acdm_lines.specs.declared.write_error.WriteError.{WriteError}
use Rattle.acdm_lines.specs.declared.write_error.WriteError.TheVariants as errors

-- a writer failed at least once more
abbrev pub HasFailed : {W : Type 0} → SinkView W → SinkView W → Type 0
HasFailed old new = faults_after true old.faults ≤ new.faults

-- The writer failed after it had taken some of the first bytes of a text, at most all.
pub record TookPart {W : Type 0} (old new : SinkView W) (text : List ℕ) : Type 0 where
  pub count : ℕ
  pub took : new.log ≡ old.log ++ take count text
  pub failed : HasFailed old new

-- what comes of writing a text
abbrev pub Takes : {W : Type 0} {T : Type 0} → SinkView W → SinkView W → List ℕ → Result T WriteError
    → Type 0
Takes old new text (Ok x) = new.log ≡ old.log ++ text
Takes old new text (Err error) = TookPart old new text × (error ≡ errors.Write)
