-- What keeps a command from its work, by the error of a run, of `serve` or of writing an entry, and how
-- that is told (this project's profile).
use Rattle.std.specs.Prelude.{ℕ, ◌≡◌, ◌⊎◌, List, [], ◌∷◌, ◌++◌, codes, Result, Ok, Err}
use Rattle.std.specs.Fmt.{decimal}
use Rattle.acdm_lines.specs.declared.write_error.WriteError.{WriteError}
use Rattle.acdm_lines.specs.declared.write_error.WriteError.TheVariants as write_errors
use Rattle.acdm_lines.specs.Counted.{SinkView}
use Rattle.acdm_lines.specs.declared.run_error.RunError.{RunError}
use Rattle.acdm_lines.specs.declared.run_error.RunError.TheVariants as errors
use Rattle.acdm_wire.specs.Writes.{Wrote, WroteInPart}
use Rattle.acdm_failures.specs.declared.failure.Failure.{Failure}
use Rattle.acdm_failures.specs.declared.failure.Failure.TheVariants.{Read, Write, Save, Memory, Accept}
use Rattle.acdm_failures.specs.declared.failure.Failure.TheVariants.{Role, Address, Follow, Peer, Watch, Control, Log, Word, Stream}
use Rattle.acdm_failures.specs.declared.failure.Failure.TheVariants.{Keep, InUse, Room, Replaced, Untold}
use Rattle.acdm_failures.specs.declared.failure.ServeError.{ServeError}
use Rattle.acdm_failures.specs.declared.failure.ServeError.TheVariants as serve_errors

abbrev pub failure_of : RunError → Failure
failure_of errors.Read = Read
failure_of errors.Write = Write
failure_of errors.Memory = Memory

abbrev pub failure_of_save : WriteError → Failure
failure_of_save write_errors.Write = Save
failure_of_save write_errors.Memory = Memory

abbrev pub failure_of_serve : ServeError → Failure
failure_of_serve (serve_errors.Accept number) = Accept number
failure_of_serve serve_errors.Write = Write
failure_of_serve serve_errors.Memory = Memory

-- what a command fails by where its journal could not be kept for a reason
abbrev pub failure_of_keeping : Failure → Failure
failure_of_keeping Save = Keep
failure_of_keeping failure = failure

-- the line that tells of a failure; partners are numbered from 1
abbrev pub failure_text : Failure → List ℕ
failure_text Read = codes "acdm: read failed" ++ 10 ∷ []
failure_text Write = codes "acdm: write failed" ++ 10 ∷ []
failure_text Untold = codes "acdm: write failed" ++ 10 ∷ []
failure_text Save = codes "acdm: save failed" ++ 10 ∷ []
failure_text Memory = codes "acdm: no memory" ++ 10 ∷ []
failure_text (Role number) = codes "acdm: role " ++ decimal number ++ 10 ∷ []
failure_text (Address number) = codes "acdm: address " ++ decimal number ++ 10 ∷ []
failure_text (Accept number) = codes "acdm: accept " ++ decimal number ++ 10 ∷ []
failure_text Watch = codes "acdm: watch address" ++ 10 ∷ []
failure_text Control = codes "acdm: control address" ++ 10 ∷ []
failure_text Follow = codes "acdm: follow address" ++ 10 ∷ []
failure_text Peer = codes "acdm: peer address" ++ 10 ∷ []
failure_text Log = codes "acdm: log file" ++ 10 ∷ []
failure_text Word = codes "acdm: a word is not UTF-8" ++ 10 ∷ []
failure_text Stream = codes "acdm: no null device" ++ 10 ∷ []
failure_text Keep = codes "acdm: keep failed" ++ 10 ∷ []
failure_text InUse = codes "acdm: the kept journal is in use" ++ 10 ∷ []
failure_text Room = codes "acdm: the kept journal needs a larger --journal" ++ 10 ∷ []
failure_text Replaced = codes "acdm: another board has taken over" ++ 10 ∷ []

-- a line was written on the errors' writer, or that failed once more after a first part of it
abbrev pub Complains : {E : Type 0} → SinkView E → SinkView E → List ℕ → Type 0
Complains old new text = Wrote old new text ⊎ WroteInPart old new text errors.Write

-- A command whose work came so ends with this status: nothing more is told of work that was done, and
-- of what kept it from its work its line.
abbrev pub Ends : {E : Type 0} → Result ℕ Failure → ℕ → SinkView E → SinkView E → Type 0
Ends (Ok status) given old new = (given ≡ status) × (new ≡ old)
Ends (Err failure) given old new = (given ≡ 2) × Complains old new (failure_text failure)

-- a command's work came in such a way, and it ends so
pub record EndsBy {E : Type 0} (Comes : Result ℕ Failure → Type 0) (given : ℕ)
    (old new : SinkView E) : Type 0 where
  pub work : Result ℕ Failure
  pub comes : Comes work
  pub ends : Ends work given old new
