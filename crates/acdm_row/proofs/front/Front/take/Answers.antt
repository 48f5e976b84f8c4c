use Rattle.std.proofs.Common.{◌≡◌, ◌∷◌, [], ◌++◌, ◌<◌, ℕ, List, length, get_or, IfSome, sym, subst}
use Rattle.std.proofs.Common.{◌∙◌, ap, arith}
use Rattle.std.proofs.lemmas.List.{append-nil}
use Rattle.acdm_step.specs.declared.entry.Entry.{Entry}
use Rattle.acdm_row.specs.Notes.{before_of, entries_of, AreKnown, entry_in}
use Rattle.acdm_row.proofs.Notes.{length_entries, known_more, entries_append}
use Rattle.acdm_row.proofs.front.Front.take.Goals as goal

pub push_reserved-requires : goal.push_reserved-requires
push_reserved-requires c =
    let a = length_entries c.self.inside.of.value.cells [] c.self.inside.notes.items
    c.self.invariant in
    let p = ap (λ s. length s.entries) c.self.view_is in
    let q = ap (λ s. s.room) c.self.view_is in
    omega (arith, a, p, q)

pub invariant_of-self : goal.invariant_of-self
invariant_of-self c =
    let ns = c.self.inside.notes.items in
    let row = c.self.inside.of.value.cells in
    let a = length_entries row [] ns c.self.invariant in
    let p = ap (λ s. length s.entries) c.self.view_is in
    let r : row ≡ c.args.self.now.row.cells = ap (λ s. s.row.cells) c.self.view_is in
    let room : length ns < length row = omega (arith, a, p, ap (λ (x : List ℕ). length x) r) in
    let at : length c.args.self.now.entries ≡ length ns = omega (arith, a, p) in
    let cell : c.args.note.cell ≡ get_or row (length ns) 0 = c.requires.cell
    ∙ (λ i. get_or (sym r i) (at i) 0) in
    let before : IfSome c.args.note.known (λ q. before_of q
    ≡ entries_of ns) = subst (λ (es : List Entry). IfSome c.args.note.known (λ q. before_of q
    ≡ es)) (sym (ap (λ s. s.entries) c.self.view_is)) c.requires.known in
    subst (λ ms. AreKnown row [] ms) (sym c.push_reserved.ensures.items) (known_more row ns
    c.args.note 0 c.self.invariant room cell c.requires.some before)

pub returns-clause-entries : goal.returns-clause-entries
returns-clause-entries c =
    let ns = c.self.inside.notes.items in
    ap entries_of c.push_reserved.ensures.items ∙ entries_append ns (c.args.note ∷ [])
    ∙ ap (λ es. entries_of ns ++ es) (append-nil (entry_in c.args.note.known))
    ∙ ap (λ s. s.entries ++ entry_in c.args.note.known) c.self.view_is
