use Rattle.std.proofs.Common.{[], length, ap, arith}
use Rattle.acdm_row.proofs.Notes.{length_cells, length_entries}
use Rattle.acdm_row.proofs.front.Front.len.Goals as goal

pub returns-clause-value : goal.returns-clause-value
returns-clause-value c = omega (
  arith,
  c.len.ensures,
  length_entries c.self.inside.of.value.cells []
      c.self.inside.notes.items c.self.invariant,
  ap (λ s. length s.entries) c.self.view_is,
)

pub returns-clause-room : goal.returns-clause-room
returns-clause-room c = omega (
  arith,
  length_entries c.self.inside.of.value.cells []
      c.self.inside.notes.items c.self.invariant,
  length_cells c.self.inside.of.value.cells []
      c.self.inside.notes.items c.self.invariant,
  ap (λ s. length s.entries) c.self.view_is,
  ap (λ s. length s.row.cells) c.self.view_is,
)
