use Rattle.std.proofs.Common.{◌≡◌, ◌<◌, [], List, length, get_or, sym, subst, ◌∙◌, ap, arith}
use Rattle.std.proofs.lemmas.List.{get_or_read}
use Rattle.acdm_step.specs.declared.entry.Entry.{Entry}
use Rattle.once_cell.specs.declared.race.note.Note.{Note}
use Rattle.acdm_row.specs.declared.published.Published.{Published}
use Rattle.acdm_row.specs.Notes.{entries_of, IsKnownAt}
use Rattle.acdm_row.proofs.Notes.{length_entries, length_cells, cell_at, known_here}
use Rattle.acdm_row.proofs.front.Front.recall.Goals as goal

pub index_mut-note-requires : goal.index_mut-note-requires
index_mut-note-requires c =
    let a = length_entries c.self.inside.of.value.cells [] c.self.inside.notes.items
    c.self.invariant in
    let p = ap (λ s. length s.entries) c.self.view_is in
    omega (arith, a, p, c.requires)

pub returns-clause-row : goal.returns-clause-row
returns-clause-row c =
    let a = length_entries c.self.inside.of.value.cells [] c.self.inside.notes.items
    c.self.invariant in
    let b = length_cells c.self.inside.of.value.cells [] c.self.inside.notes.items c.self.invariant
    in
    let p = ap (λ s. length s.entries) c.self.view_is in
    let q = ap (λ s. length s.row.cells) c.self.view_is in
    omega (arith, a, b, p, q, c.requires)

pub returns-clause-cell : goal.returns-clause-cell
returns-clause-cell c =
    let ns = c.self.inside.notes.items in
    let row = c.self.inside.of.value.cells in
    let a = length_entries row [] ns c.self.invariant in
    let p = ap (λ s. length s.entries) c.self.view_is in
    let below : c.args.at < length ns = omega (arith, a, p, c.requires) in
    let it : c.again.result ≡ c.index_mut-note.result.now = c.again.ensures.1 in
    let at : c.index_mut-note.result.now ≡ get_or ns c.args.at c.again.result = get_or_read ns
    c.args.at c.index_mut-note.result.now below c.index_mut-note.ensures.value c.again.result in
    ap (λ n. n.cell) (it ∙ at) ∙ cell_at row [] ns c.self.invariant c.args.at below c.again.result 0
    ∙ ap (λ s. get_or s.row.cells c.args.at 0) c.self.view_is

pub returns-clause-known : goal.returns-clause-known
returns-clause-known c =
    let ns = c.self.inside.notes.items in
    let row = c.self.inside.of.value.cells in
    let a = length_entries row [] ns c.self.invariant in
    let p = ap (λ s. length s.entries) c.self.view_is in
    let below : c.args.at < length ns = omega (arith, a, p, c.requires) in
    let it : c.again.result ≡ c.index_mut-note.result.now = c.again.ensures.1 in
    let at : c.index_mut-note.result.now ≡ get_or ns c.args.at c.again.result = get_or_read ns
    c.args.at c.index_mut-note.result.now below c.index_mut-note.ensures.value c.again.result in
    subst (λ (es : List Entry). IsKnownAt c.again.result.known es c.args.at) (ap (λ s. s.entries)
    c.self.view_is)
    (subst (λ (n : Note Published). IsKnownAt n.known (entries_of ns) c.args.at) (sym (it
    ∙ at)) (known_here row ns c.self.invariant c.args.at below c.again.result))
