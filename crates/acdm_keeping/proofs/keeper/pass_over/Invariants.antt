use Rattle.std.proofs.Common.{◌≡◌, ◌+◌, length}
use Rattle.acdm_keeping.proofs.keeper.pass_over.Given as goal

abbrev pub invariant-loop : goal.invariant-loop
invariant-loop l = record {
  row : l.sight.row ≡ l.fn.sight.row;
  passed : length l.sight.entries ≡ length l.fn.sight.entries + l.counter;
}
