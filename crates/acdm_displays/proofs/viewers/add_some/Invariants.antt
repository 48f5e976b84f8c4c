use Rattle.std.proofs.Common.{◌≡◌}
use Rattle.acdm_displays.specs.Displayed.{Adds}
use Rattle.acdm_displays.specs.Within.{StaysWithin}
use Rattle.acdm_displays.proofs.viewers.add_some.Given as goal

abbrev pub invariant-loop : goal.invariant-loop
invariant-loop g l = record {
  row : l.watch.row ≡ l.fn.watch.row;
  added : Adds g.T.Telling.tells l.fn.teller l.teller l.fn.watch.seen l.watch.seen l.fn.text.items l.text.items;
  within : StaysWithin l.fn.most l.fn.watch.seen l.watch.seen;
}
