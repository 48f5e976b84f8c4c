use Rattle.std.specs.Prelude.{length}
use Rattle.acdm_board.specs.Desk.{row_of}
use Rattle.acdm_sessions.proofs.sessions.run_sessions.Given as goal

abbrev pub ghosts-run_named-J-Ledger : goal.ghosts-run_named-J-Ledger
ghosts-run_named-J-Ledger g a = record { name = a.blank.name; parts = a.blank.parts }

abbrev pub ghosts-run_named-J-Naming : goal.ghosts-run_named-J-Naming
ghosts-run_named-J-Naming g a = record { desk_row = row_of a.desk; start = length a.desk.history }
