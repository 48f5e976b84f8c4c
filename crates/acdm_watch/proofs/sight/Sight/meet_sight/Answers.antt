use Rattle.std.proofs.Common.{length, ap, arith}
use Rattle.acdm_watch.proofs.Places.{are_length}
use Rattle.acdm_watch.proofs.sight.Sight.meet_sight.Goals as goal

pub returns-clause-length : goal.returns-clause-length
returns-clause-length c =
    let a = are_length c.self.inside.front.row.cells c.self.inside.notes.items c.self.invariant.are
    in
    let b = are_length c.other.inside.front.row.cells c.other.inside.notes.items
    c.other.invariant.are in
    let p = ap (λ s. length s.entries) c.self.view_is in
    let q = ap (λ s. length s.entries) c.other.view_is in
    omega (arith, a, b, p, q, c.len.ensures, c.len-2.ensures, c.min-to.ensures)
