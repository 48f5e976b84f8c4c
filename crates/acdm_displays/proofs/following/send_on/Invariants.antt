use Rattle.std.proofs.Common.{◌≡◌}
use Rattle.acdm_displays.specs.Displayed.{Follows}
use Rattle.acdm_displays.specs.Within.{IsNoLess, IsWithin}
use Rattle.acdm_displays.proofs.following.send_on.Given as goal

abbrev pub invariant-loop : goal.invariant-loop
invariant-loop g l = record {
  row : l.seen.watch.row ≡ l.fn.seen.watch.row;
  sent : Follows g.T.Telling.tells l.fn.teller l.teller l.fn.seen.watch.seen l.seen.watch.seen
      l.fn.writer.log l.writer.log;
  within : IsWithin l.seen.extent l.seen.watch.seen;
  kept : IsNoLess l.fn.seen.extent l.seen.extent;
}
