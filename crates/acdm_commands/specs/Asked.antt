-- What is done for the words of a command line.
use Rattle.std.specs.Prelude.{ℕ, ◌≡◌, ◌⊎◌, List, option_map}
use Rattle.clap.specs.declared.error.kind.ErrorKind.{ErrorKind}
use Rattle.acdm_command_line.specs.CommandLine.{AsksFor, Refuses}
use Rattle.acdm_command_line.specs.declared.command_line.Line.{Line}
use Rattle.acdm_lines.specs.Counted.{SinkView, SourceView}
use Rattle.acdm_tables.specs.Helpers.{TablesView, helpers_by}
use Rattle.acdm_commands.specs.Completed.{Does}
use Rattle.acdm_commands.specs.ByTables.{AreTables, RefusesJournal, RefusesTables, journals_of}

-- the words ask for this, and it was done with the helpers by these tables
pub record DoesAsked {R W E : Type 0} (words : List (List ℕ)) (input input_after : SourceView R)
    (output output_after : SinkView W) (status : ℕ) (errors errors_after : SinkView E) : Type 0 where
  pub line : Line
  pub asks : AsksFor words line
  pub tables : TablesView
  pub are : AreTables (option_map (λ s. s.now) line.tables) tables
  pub done : Does (helpers_by tables) line.subcommand input input_after output output_after status errors
      errors_after

-- the words ask for a file of tables that gives none, which was told, and nothing was done
pub record LacksTables {R W E : Type 0} (words : List (List ℕ)) (input input_after : SourceView R)
    (output output_after : SinkView W) (status : ℕ) (errors errors_after : SinkView E) : Type 0 where
  pub line : Line
  pub asks : AsksFor words line
  pub refused : RefusesTables (option_map (λ s. s.now) line.tables) errors errors_after
  pub status_is : status ≡ 2
  pub unread : input_after ≡ input
  pub unwritten : output_after ≡ output

-- the words ask for something with a journal that was made by other tables, which was told, and nothing was done
pub record DiffersInTables {R W E : Type 0} (words : List (List ℕ)) (input input_after : SourceView R)
    (output output_after : SinkView W) (status : ℕ) (errors errors_after : SinkView E) : Type 0 where
  pub line : Line
  pub asks : AsksFor words line
  pub tables : TablesView
  pub are : AreTables (option_map (λ s. s.now) line.tables) tables
  pub refused : RefusesJournal (journals_of line.subcommand).0 tables errors errors_after
      ⊎ RefusesJournal (journals_of line.subcommand).1 tables errors errors_after
  pub status_is : status ≡ 2
  pub unread : input_after ≡ input
  pub unwritten : output_after ≡ output

-- the words were refused for this reason, and nothing was done
pub record Refused {R W : Type 0} (words : List (List ℕ)) (input input_after : SourceView R)
    (output output_after : SinkView W) (status : ℕ) : Type 0 where
  pub kind : ErrorKind
  pub refused : Refuses words kind
  pub status_is : status ≡ 2
  pub unread : input_after ≡ input
  pub unwritten : output_after ≡ output

abbrev pub Completes : {R W E : Type 0} → List (List ℕ) → SourceView R → SourceView R → SinkView W
    → SinkView W → ℕ → SinkView E → SinkView E → Type 0
Completes words input input_after output output_after status errors errors_after =
    DoesAsked words input input_after output output_after status errors errors_after
    ⊎ Refused words input input_after output output_after status
    ⊎ LacksTables words input input_after output output_after status errors errors_after
    ⊎ DiffersInTables words input input_after output output_after status errors errors_after
