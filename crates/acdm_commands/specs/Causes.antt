-- Why what a word of the command line names could not be used, as one line (this project's profile).
use Rattle.std.specs.Prelude.{◌≡◌, ◌⊎◌, ◌++◌, ◌∷◌, [], List, ℕ, codes}
use Rattle.std.specs.declared.io.ErrorKind.{ErrorKind}
use Rattle.std.specs.declared.io.ErrorKind.TheVariants.{OutOfMemory, WouldBlock}
use Rattle.acdm_failures.specs.Failures.{Complains}
use Rattle.acdm_failures.specs.declared.failure.Failure.{Failure}
use Rattle.acdm_failures.specs.declared.failure.Failure.TheVariants.{InUse, Keep, Memory}
use Rattle.acdm_lines.specs.Counted.{SinkView}

-- an option with its blank, the value that stands behind it, and what the system says of it
abbrev pub cause_text : List ℕ → List ℕ → List ℕ → List ℕ
cause_text option value why =
    codes "acdm: " ++ option ++ value ++ codes ": " ++ why ++ 10 ∷ []

-- nothing was told, or one text
abbrev pub TellsCause : {E : Type 0} → SinkView E → SinkView E → Type 0
TellsCause old new = (new ≡ old) ⊎ ((text : List ℕ) × Complains old new text)

-- what a command fails by where an error of this kind came: want of memory is its own failure
abbrev pub failure_by : Failure → ErrorKind → Failure
failure_by failure OutOfMemory = Memory
failure_by failure kind = failure

-- what it fails by where the file of `--keep` could not be used: a lock that somebody else has is told apart
abbrev pub keep_failure : ErrorKind → Failure
keep_failure WouldBlock = InUse
keep_failure OutOfMemory = Memory
keep_failure kind = Keep
