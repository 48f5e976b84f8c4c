use Rattle.std.proofs.Common.{length, ap, arith}
use Rattle.acdm_watch.proofs.Places.{are_length}
use Rattle.acdm_watch.proofs.sight.Sight.len.Goals as goal

pub returns : goal.returns
returns c = omega (
  arith,
  c.len.ensures,
  are_length c.self.inside.front.row.cells
      c.self.inside.notes.items c.self.invariant.are,
  ap (λ s. length s.entries) c.self.view_is,
)
