use Rattle.acdm_board.specs.Desk.{row_of}
use Rattle.keeping_tests.proofs.sharing.outcome_of.Given as goal

abbrev pub ghosts-served : goal.ghosts-served
ghosts-served g a = record {
  desk_row = row_of a.desk;
  opening = a.keeper.seen;
  table = a.kept;
}
