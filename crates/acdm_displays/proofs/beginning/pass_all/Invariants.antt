use Rattle.std.proofs.Common.{◌≡◌}
use Rattle.std.specs.Prelude.{reverse}
use Rattle.acdm_feed.specs.Knowing.{Knows}
use Rattle.acdm_displays.specs.Within.{StaysWithin}
use Rattle.acdm_displays.proofs.beginning.pass_all.Given as goal

abbrev pub invariant-loop : goal.invariant-loop
invariant-loop l = record {
  row : l.watch.row ≡ l.fn.watch.row;
  within : StaysWithin l.fn.most l.fn.watch.seen l.watch.seen;
  knows : Knows (reverse l.fn.watch.seen) l.fn.known → Knows (reverse l.watch.seen) l.known;
}
