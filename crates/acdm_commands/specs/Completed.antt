-- What is done for a line, with the helpers of these signatures.
use Rattle.std.specs.Prelude.{ℕ, ◌≡◌, ◌⊎◌, ⊤, Bool, true, false, List, [], Option, Some, None, Result, Ok, Err}
use Rattle.std.specs.Prelude.{is_some, map, option_map}
use Rattle.bpf_helpers.specs.Promise.{Promise}
use Rattle.bpf_regstate.specs.declared.length.Length.{Length}
use Rattle.acdm_command_line.specs.declared.command_line.Subcommand.{Subcommand}
use Rattle.acdm_command_line.specs.declared.command_line.Subcommand.TheVariants.{Audit, Explain, Run, Serve}
use Rattle.acdm_command_line.specs.declared.command_line.Subcommand.TheVariants.{Tell, Verify}
use Rattle.acdm_failures.specs.Failures.{EndsBy}
use Rattle.acdm_failures.specs.declared.failure.Failure.{Failure}
use Rattle.acdm_failures.specs.declared.failure.Failure.TheVariants.{Memory, Read, Save, Untold}
use Rattle.acdm_judging.specs.Explained.{Explains, TellsUnread}
use Rattle.acdm_judging.specs.Findings.{Audited}
use Rattle.acdm_judging.specs.Verdicts.{Verifies}
use Rattle.acdm_lines.specs.Counted.{SinkView, SourceView}
use Rattle.acdm_telling.specs.Told.{Told}
use Rattle.acdm_commands.specs.Keeping.{KeepsTo, ServesTo}
use Rattle.acdm_commands.specs.Partners.{Named, has_outlet}
use Rattle.acdm_commands.specs.Served.{RunsTo}

-- ---- files

-- what is seen of a file but for the file itself
abbrev pub read_from : {F : Type 0} → SourceView F → SourceView ⊤
read_from file = record {
  inner = tt;
  first = file.first;
  faults = file.faults;
  log = file.log;
  ended = file.ended;
}

abbrev pub written_to : {F : Type 0} → SinkView F → SinkView ⊤
written_to file = record {
  inner = tt;
  first = file.first;
  faults = file.faults;
  waits = file.waits;
  log = file.log;
  told = file.told;
}

-- a file that nothing was read of
abbrev pub IsUnread : {F : Type 0} → SourceView F → Type 0
IsUnread file = (file.log ≡ []) × (file.faults ≡ 0) × (file.ended ≡ false)

-- the file of a path, if there is one, that nothing was written to and that has not failed
abbrev pub IsUnwritten : {F : Type 0} → Option (List ℕ) → Option (SinkView F) → Type 0
IsUnwritten None None = Unit {0}
IsUnwritten (Some path) (Some file) =
    (file.log ≡ []) × (file.faults ≡ 0) × (file.waits ≡ false)
IsUnwritten _ _ = ⊥

-- why the file of a path could not be made, where there is one
abbrev pub FailsToMake : Option (List ℕ) → Failure → Type 0
FailsToMake (Some path) Save = Unit {0}
FailsToMake (Some path) Memory = Unit {0}
FailsToMake path failure = ⊥

-- there is a path
abbrev pub HasPath : Option (List ℕ) → Type 0
HasPath (Some path) = Unit {0}
HasPath None = ⊥

-- a command's work was done, and the journal written, whether it could be told how it ended or not
abbrev pub IsDone : Result ℕ Failure → Type 0
IsDone (Ok status) = status ≡ 0
IsDone (Err Untold) = Unit {0}
IsDone (Err failure) = ⊥

-- A command's work came so, and its file took the place of the one of its path where all was done; or all
-- was done and written beside that, and it could not take its place, so what was there stays.
abbrev pub Places : Option (List ℕ) → (Result ℕ Failure → Type 0) → Result ℕ Failure → Type 0
Places path Comes work =
    Comes work
    ⊎ (HasPath path × ((done : Result ℕ Failure) × IsDone done × Comes done) × (work ≡ Err Save))

-- the work of a command is given as it came, or it was done and its file could not be put in its place
abbrev pub Settles : Option (List ℕ) → Result ℕ Failure → Result ℕ Failure → Type 0
Settles path work given = (given ≡ work) ⊎ (HasPath path × IsDone work × (given ≡ Err Save))

-- it was not made, and this is why
abbrev pub IsNotMade : Option (List ℕ) → Result ℕ Failure → Type 0
IsNotMade path (Ok status) = ⊥
IsNotMade path (Err failure) = FailsToMake path failure

-- ---- commands

-- A command that saves a journal: its file was made, and it came so and the file took its place; or the file
-- could not be made, and nothing was done.
abbrev pub InFile : Option (List ℕ)
    → (Option (SinkView ⊤) → Option (SinkView ⊤) → Result ℕ Failure → Type 0) → Type 0
    → Result ℕ Failure → Type 0
InFile path Comes Untouched work =
    ((saved saved_after : Option (SinkView ⊤)) × IsUnwritten path saved
    × Places path (Comes saved saved_after) work)
    ⊎ (IsNotMade path work × Untouched)

-- what comes of `run`, where the journal is kept or not
abbrev pub ComesOfRun : {R W F : Type 0} → List (ℕ × Promise) → ℕ → Bool → SourceView R → SourceView R
    → SinkView W → SinkView W → Option (SinkView F) → Option (SinkView F) → Result ℕ Failure → Type 0
ComesOfRun sigs capacity true input input_after output output_after saved saved_after work =
    KeepsTo sigs capacity input input_after output output_after saved saved_after work
ComesOfRun sigs capacity false input input_after output output_after saved saved_after work =
    RunsTo sigs capacity input input_after output output_after saved saved_after work

-- `run`
abbrev pub RunsLine : {R W : Type 0} → List (ℕ × Promise) → ℕ → Option (List ℕ) → Bool → SourceView R
    → SourceView R → SinkView W → SinkView W → Result ℕ Failure → Type 0
RunsLine sigs capacity path kept input input_after output output_after work =
    InFile path (ComesOfRun sigs capacity kept input input_after output output_after)
    ((input_after ≡ input) × (output_after ≡ output)) work

-- `serve`
abbrev pub ServesLine : {W : Type 0} → List (ℕ × Promise) → ℕ → Option (List ℕ) → Bool → Named
    → SinkView W → SinkView W → Result ℕ Failure → Type 0
ServesLine sigs capacity path kept named output output_after work =
    InFile path (ServesTo sigs capacity kept named output output_after) (output_after ≡ output) work

-- a file could not be opened, and nothing was written
abbrev pub FailsToOpen : {W : Type 0} → SinkView W → SinkView W → Result ℕ Failure → Type 0
FailsToOpen output output_after work = (work ≡ Err Read) × (output_after ≡ output)

-- `audit`, of what the file gave, or it could not be opened
abbrev pub AuditsLine : {W : Type 0} → List (ℕ × Promise) → SinkView W → SinkView W
    → Result ℕ Failure → Type 0
AuditsLine sigs output output_after work =
    ((file file_after : SourceView ⊤) × IsUnread file
    × Audited sigs file file_after output output_after work)
    ⊎ FailsToOpen output output_after work

-- `tell`, the same
abbrev pub TellsLine : {W : Type 0} → List (ℕ × Promise) → SinkView W → SinkView W → Result ℕ Failure → Type 0
TellsLine sigs output output_after work =
    ((file file_after : SourceView ⊤) × IsUnread file
    × Told sigs file file_after output output_after work)
    ⊎ FailsToOpen output output_after work

-- `verify`, the same, beside records of this length
abbrev pub VerifiesLine : {W : Type 0} → List (ℕ × Promise) → Length → SinkView W → SinkView W
    → Result ℕ Failure → Type 0
VerifiesLine sigs long output output_after work =
    ((file file_after : SourceView ⊤) × IsUnread file
    × Verifies sigs long file file_after output output_after work)
    ⊎ FailsToOpen output output_after work

-- `explain`: what it tells is of what the file gave, or the file of this path could not be read or opened,
-- the status is 2, that was said, and nothing was written
abbrev pub ExplainsLine : {W E : Type 0} → List (ℕ × Promise) → Length → List ℕ → SinkView W → SinkView W → ℕ
    → SinkView E → SinkView E → Type 0
ExplainsLine sigs long path output output_after status errors errors_after =
    ((file file_after : SourceView ⊤) × IsUnread file
    × EndsBy (Explains sigs long file file_after) status errors errors_after)
    ⊎ ((status ≡ 2) × (output_after ≡ output) × TellsUnread path errors errors_after)

-- what is done for a line; none but `run` reads the input
abbrev pub Does : {R W E : Type 0} → List (ℕ × Promise) → Subcommand → SourceView R → SourceView R
    → SinkView W → SinkView W → ℕ → SinkView E → SinkView E → Type 0
Does sigs (Run journal save keep sync) input input_after output output_after status errors errors_after =
    EndsBy (RunsLine sigs journal (option_map (λ s. s.now) save) (is_some keep) input input_after output output_after)
    status errors errors_after
Does sigs (Serve first journal save keep sync watch changes web web_name again control pace tick log second strict peer partners) input input_after output output_after status errors errors_after =
    (input_after ≡ input) × EndsBy (ServesLine sigs journal (option_map (λ s. s.now) save) (is_some keep)
    (record {
      words = map (λ s. s.now) partners.items;
      follows = is_some first;
      ticks = is_some tick;
      controlled = is_some control;
      logged = is_some log;
      peered = is_some peer;
      shown = has_outlet (is_some watch) (is_some changes) (is_some web);
    }) output output_after) status errors errors_after
Does sigs (Audit file) input input_after output output_after status errors errors_after =
    (input_after ≡ input) × EndsBy (AuditsLine sigs output output_after) status errors errors_after
Does sigs (Verify long file) input input_after output output_after status errors errors_after =
    (input_after ≡ input) × EndsBy (VerifiesLine sigs long output output_after) status errors errors_after
Does sigs (Explain long file) input input_after output output_after status errors errors_after =
    (input_after ≡ input) × ExplainsLine sigs long file.now output output_after status errors errors_after
Does sigs (Tell file) input input_after output output_after status errors errors_after =
    (input_after ≡ input) × EndsBy (TellsLine sigs output output_after) status errors errors_after
