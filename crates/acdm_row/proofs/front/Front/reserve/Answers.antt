use Rattle.std.proofs.Common.{[], length, ap, arith}
use Rattle.acdm_row.proofs.Notes.{length_entries}
use Rattle.acdm_row.proofs.front.Front.reserve.Goals as goal

pub returns-clause-room : goal.returns-clause-room
returns-clause-room c =
    let a = length_entries c.self.inside.of.value.cells [] c.self.inside.notes.items
    c.self.invariant in
    let p = ap (λ s. length s.entries) c.self.view_is in
    omega (arith, a, p, c.in_ok-reserve.ensures.ok)
