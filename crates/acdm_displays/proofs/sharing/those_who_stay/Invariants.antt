use Rattle.std.proofs.Common.{◌≡◌, ◌++◌, List, []}
use Rattle.acdm_displays.specs.Viewing.{Each, IsHanded, ViewerView}
use Rattle.acdm_displays.proofs.sharing.those_who_stay.Given as goal

abbrev pub invariant-loop : goal.invariant-loop
invariant-loop l = record {
  split : (rest : List ViewerView) × (l.fn.list.items ≡ l.left.items ++ rest);
  kept : Each (IsHanded l.fn.list.items []) l.kept.items;
}
