use Rattle.std.proofs.Common.{◌≡◌, length}
use Rattle.acdm_displays.specs.Viewing.{AreTold}
use Rattle.acdm_displays.specs.Within.{IsWithin}
use Rattle.acdm_displays.proofs.displays.Admission.take_heard.Given as goal

abbrev pub invariant-loop : goal.invariant-loop
invariant-loop g l = record {
  row : l.viewers.seen.watch.row ≡ l.fn.viewers.seen.watch.row;
  within : IsWithin l.viewers.seen.extent l.viewers.seen.watch.seen;
  told : AreTold g.T.Telling.tells (g.T.Sharing.begun g.T.Sharing.head) (length l.viewers.seen.watch.row.cells)
      l.viewers.teller l.viewers.seen.watch.seen l.viewers.list.items;
}
