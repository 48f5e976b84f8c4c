use Rattle.std.proofs.Common.{◌≡◌, ◌++◌}
use Rattle.acdm_keeping.specs.Kept.{GrowsFrom, Keeps, SeesOn}
use Rattle.acdm_keeping.proofs.keeper.gather_all.Given as goal

abbrev pub invariant-loop : goal.invariant-loop
invariant-loop g l = record {
  row : l.sight.row ≡ l.fn.sight.row;
  gathered : Keeps l.fn.sight.entries l.sight.entries (l.fn.writer.log ++ l.fn.text.items)
      (l.writer.log ++ l.text.items);
  grows : GrowsFrom l.fn.writer.log l.writer.log;
  sees : SeesOn l.fn.sight.entries l.sight.entries;
}
