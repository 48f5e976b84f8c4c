use Rattle.std.specs.Arc.{arc_value}
use Rattle.display_tests.proofs.kept.shows_of.Given as goal

abbrev pub ghosts-shows_what_is_kept : goal.ghosts-shows_what_is_kept
ghosts-shows_what_is_kept g a = record {
  desk_row = arc_value a.row.now;
  opening = a.keeper.seen;
  table = a.count;
}
