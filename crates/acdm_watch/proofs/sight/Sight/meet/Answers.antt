use Rattle.std.proofs.Common.{length, ap, arith}
use Rattle.acdm_watch.proofs.Places.{are_length}
use Rattle.acdm_watch.proofs.sight.Sight.meet.Goals as goal

pub returns-clause-length : goal.returns-clause-length
returns-clause-length c =
    let a = are_length c.self.inside.front.row.cells c.self.inside.notes.items c.self.invariant.are
    in
    let p = ap (λ s. length s.entries) c.self.view_is in
    omega (arith, a, p, c.len.ensures, c.len-2.ensures, c.min-to.ensures)
