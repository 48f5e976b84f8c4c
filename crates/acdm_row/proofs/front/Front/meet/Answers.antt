use Rattle.std.proofs.Common.{◌≡◌, ◌-◌, suc, [], length, take, get_or, sym, ap, ◌∙◌, subst, arith}
use Rattle.std.proofs.Common.{List, ℕ}
use Rattle.acdm_row.specs.Notes.{AreKnown}
use Rattle.acdm_row.proofs.Notes.{length_entries, cell_at, same_upto_any}
use Rattle.acdm_row.proofs.front.Front.meet.Goals as goal

pub agree-requires-clause-cell : goal.agree-requires-clause-cell
agree-requires-clause-cell c = λ d.
    let ns = c.self.inside.notes.items in
    let ms = c.other.inside.notes.items in
    let row : c.other.inside.of.value.cells ≡ c.self.inside.of.value.cells = ap (λ s. s.row.cells)
    c.other.view_is ∙ ap (λ r. r.cells) c.requires ∙ sym (ap (λ s. s.row.cells) c.self.view_is)
    in
    let k = c.min-count.result - 1 in
    cell_at c.other.inside.of.value.cells [] ms c.other.invariant k (omega arith) d 0
    ∙ ap (λ (r : List ℕ). get_or r k 0) row ∙ sym (cell_at c.self.inside.of.value.cells [] ns
    c.self.invariant k (omega arith) d 0)

pub returns-then-count-gt0-clause-length : goal.returns-then-count-gt0-clause-length
returns-then-count-gt0-clause-length c =
    let a = length_entries c.self.inside.of.value.cells [] c.self.inside.notes.items
    c.self.invariant in
    let b = length_entries c.other.inside.of.value.cells [] c.other.inside.notes.items
    c.other.invariant in
    let p = ap (λ s. length s.entries) c.self.view_is in
    let q = ap (λ s. length s.entries) c.other.view_is in
    omega arith

pub returns-then-count-gt0-clause-same : goal.returns-then-count-gt0-clause-same
returns-then-count-gt0-clause-same c =
    let ns = c.self.inside.notes.items in
    let ms = c.other.inside.notes.items in
    let cells = c.self.inside.of.value.cells in
    let row : c.other.inside.of.value.cells ≡ cells = ap (λ s. s.row.cells) c.other.view_is
    ∙ ap (λ r. r.cells) c.requires ∙ sym (ap (λ s. s.row.cells) c.self.view_is) in
    let theirs : AreKnown cells [] ms = subst (λ (r : List ℕ). AreKnown r [] ms) row
    c.other.invariant in
    let k = c.min-count.result - 1 in
    let count : suc k ≡ c.min-count.result = omega (arith, c.if-count-gt0.true) in
    let same = same_upto_any cells ns ms c.self.invariant theirs k (omega arith) (omega arith)
    c.agree.ensures.same in
    (λ i. take (sym count i) (sym c.self.view_is i).entries) ∙ same
    ∙ (λ i. take (count i) (c.other.view_is i).entries)
