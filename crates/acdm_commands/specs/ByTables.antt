-- By which tables a command works (this project's profile).
use Rattle.std.specs.Prelude.{ℕ, ◌≡◌, ◌≢◌, ◌⊎◌, ⊤, List, [], ◌∷◌, ◌++◌, codes, Option, Some, None, Ok, Err}
use Rattle.std.specs.Prelude.{option_map}
use Rattle.std.specs.Fmt.{decimal}
use Rattle.acdm_command_line.specs.declared.command_line.Subcommand.{Subcommand}
use Rattle.acdm_command_line.specs.declared.command_line.Subcommand.TheVariants.{Audit, Explain, Run, Serve}
use Rattle.acdm_command_line.specs.declared.command_line.Subcommand.TheVariants.{Tell, Verify}
use Rattle.acdm_failures.specs.Failures.{Complains, failure_text}
use Rattle.acdm_failures.specs.declared.failure.Failure.TheVariants.{Memory}
use Rattle.acdm_judging.specs.Explained.{TellsUnread}
use Rattle.acdm_judging.specs.Gave.{GaveBytes}
use Rattle.acdm_lines.specs.Counted.{SinkView, SourceView}
use Rattle.acdm_tables.specs.Helpers.{TablesView, built_in}
use Rattle.acdm_tables.specs.Reading.{Reads, most_text, why_text}
use Rattle.acdm_tables.specs.declared.fault.TablesError.{TablesError}
use Rattle.acdm_tables.specs.declared.fault.TablesError.TheVariants as errors
use Rattle.acdm_commands.specs.Completed.{IsUnread}

-- the text that a reader gave means these tables
pub record ReadsTables {R : Type 0} (read read_after : SourceView R) (tables : TablesView)
    : Type 0 where
  pub text : List ℕ
  pub gave : GaveBytes most_text read read_after text
  pub reads : Reads {X = TablesView} (λ t. t) text (Ok tables)

-- those that are built in where no file is named, else those of what the file gave
abbrev pub AreTables : Option (List ℕ) → TablesView → Type 0
AreTables None tables = tables ≡ built_in
AreTables (Some path) tables =
    (file file_after : SourceView ⊤) × IsUnread file × ReadsTables file file_after tables

-- ---- where there are none

-- a line on the file of a path
abbrev pub named : List ℕ → List ℕ → List ℕ
named path words = codes "acdm: " ++ (path ++ (codes ": " ++ (words ++ 10 ∷ [])))

-- what is told of a text that means none
abbrev pub refusal_text : List ℕ → TablesError → List ℕ
refusal_text path (errors.NoToml line) = named path (codes "line " ++ (decimal line ++ codes ": not TOML"))
refusal_text path errors.TooLong = named path (codes "more than 1000000 bytes")
refusal_text path (errors.Wrong key why) = named path (key.items ++ (codes ": " ++ why_text why))
refusal_text path errors.Memory = failure_text Memory

-- the text that a reader gave means none, and that was told
pub record TellsFault {R E : Type 0} (path : List ℕ) (read read_after : SourceView R)
    (errors errors_after : SinkView E) : Type 0 where
  pub text : List ℕ
  pub gave : GaveBytes most_text read read_after text
  pub error : TablesError
  pub reads : Reads {X = TablesView} (λ t. t) text (Err error)
  pub told : Complains errors errors_after (refusal_text path error)

-- what comes of the file of a path that gives no tables: it can't be read, or there was no memory, or
-- what it gave means none
abbrev pub GivesNone : {R E : Type 0} → List ℕ → SourceView R → SourceView R → SinkView E → SinkView E
    → Type 0
GivesNone path read read_after errors errors_after =
    TellsFault path read read_after errors errors_after
    ⊎ (TellsUnread path errors errors_after ⊎ Complains errors errors_after (failure_text Memory))

abbrev pub RefusesTables : {E : Type 0} → Option (List ℕ) → SinkView E → SinkView E → Type 0
RefusesTables None errors errors_after = Complains errors errors_after (failure_text Memory)
RefusesTables (Some path) errors errors_after =
    ((file file_after : SourceView ⊤) × IsUnread file × GivesNone path file file_after errors errors_after)
    ⊎ TellsUnread path errors errors_after

-- ---- the tables by which a journal was made

-- the file beside the journal of a path, which has them
abbrev pub beside : List ℕ → List ℕ
beside path = path ++ codes ".tables"

-- what is told where it has others
abbrev pub other_text : List ℕ → List ℕ
other_text path = named (beside path) (codes "other tables than those of this command")

-- the text that it gave means other tables than these, and that was told
pub record TellsOther {R E : Type 0} (path : List ℕ) (tables : TablesView) (read read_after : SourceView R)
    (errors errors_after : SinkView E) : Type 0 where
  pub others : TablesView
  pub reads : ReadsTables read read_after others
  pub differs : others ≢ tables
  pub told : Complains errors errors_after (other_text path)

-- what it gave keeps a command with these tables from its work: others, or none
abbrev pub GivesOther : {R E : Type 0} → List ℕ → TablesView → SourceView R → SourceView R → SinkView E
    → SinkView E → Type 0
GivesOther path tables read read_after errors errors_after =
    TellsOther path tables read read_after errors errors_after
    ⊎ GivesNone (beside path) read read_after errors errors_after

-- a journal, if there is one at that path, is not touched with these tables: of the file beside it comes
-- that, or it can't be read, or there was no memory
abbrev pub RefusesJournal : {E : Type 0} → Option (List ℕ) → TablesView → SinkView E → SinkView E → Type 0
RefusesJournal None tables errors errors_after = ⊥
RefusesJournal (Some path) tables errors errors_after =
    ((file file_after : SourceView ⊤) × IsUnread file
    × GivesOther path tables file file_after errors errors_after)
    ⊎ (TellsUnread (beside path) errors errors_after ⊎ Complains errors errors_after (failure_text Memory))

-- the journals that a command names: of which it reads one and may write another
abbrev pub journals_of : Subcommand → Option (List ℕ) × Option (List ℕ)
journals_of (Run journal save keep sync) = (option_map (λ s. s.now) keep, option_map (λ s. s.now) save)
journals_of (Serve first journal save keep sync watch changes web web_name again control pace tick log second strict peer partners) =
    (option_map (λ s. s.now) keep, option_map (λ s. s.now) save)
journals_of (Audit file) = (Some file.now, None)
journals_of (Tell file) = (Some file.now, None)
journals_of (Verify long file) = (None, None)
journals_of (Explain long file) = (None, None)
