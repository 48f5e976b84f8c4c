use Rattle.std.proofs.Common.{◌≡◌}
use Rattle.acdm_displays.specs.Displayed.{StaysNamed}
use Rattle.acdm_displays.specs.Within.{StaysWithin}
use Rattle.acdm_displays.proofs.resuming.pass_more.Given as goal

abbrev pub invariant-loop : goal.invariant-loop
invariant-loop l = record {
  row : l.watch.row ≡ l.fn.watch.row;
  named : StaysNamed l.fn.watch.seen l.watch.seen;
  within : StaysWithin l.fn.most l.fn.watch.seen l.watch.seen;
}
