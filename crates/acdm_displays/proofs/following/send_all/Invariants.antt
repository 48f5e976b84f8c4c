use Rattle.std.proofs.Common.{◌≡◌, ◌++◌}
use Rattle.acdm_displays.specs.Displayed.{Follows}
use Rattle.acdm_displays.specs.Within.{StaysWithin}
use Rattle.acdm_displays.proofs.following.send_all.Given as goal

abbrev pub invariant-loop : goal.invariant-loop
invariant-loop g l = record {
  row : l.watch.row ≡ l.fn.watch.row;
  sent : Follows g.T.Telling.tells l.fn.teller l.teller l.fn.watch.seen l.watch.seen
      l.fn.writer.log (l.writer.log ++ l.text.items);
  within : StaysWithin l.fn.most l.fn.watch.seen l.watch.seen;
}
