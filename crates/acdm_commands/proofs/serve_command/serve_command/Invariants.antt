use Rattle.acdm_board.specs.Desk.{row_of}
use Rattle.acdm_commands.specs.Keeping.{seen_by}
use Rattle.acdm_commands.proofs.serve_command.serve_command.Given as goal

abbrev pub ghosts-serve_desk : goal.ghosts-serve_desk
ghosts-serve_desk g a = record {
  desk_row = row_of a.begun.desk;
  opening = seen_by a.begun.keeper;
  table = a.begun.count;
}
