use Rattle.std.proofs.Common.{◌≡◌, [], ◌++◌, ◌≤◌, ℕ, List, length, take, drop, vec_len, sym, subst}
use Rattle.std.proofs.Common.{◌∙◌, ap, arith}
use Rattle.std.proofs.lemmas.List.{take_all}
use Rattle.once_cell.specs.declared.race.note.Note.{Note}
use Rattle.acdm_row.specs.declared.published.Published.{Published}
use Rattle.acdm_row.specs.Notes.{entries_of, AreKnown}
use Rattle.acdm_row.proofs.Notes.{length_entries, known_rest}
use Rattle.acdm_row.proofs.front.Front.learn.Goals as goal

pub copy_rest-requires-clause-shorter : goal.copy_rest-requires-clause-shorter
copy_rest-requires-clause-shorter c =
    let a = length_entries c.self.inside.of.value.cells [] c.self.inside.notes.items
    c.self.invariant in
    let b = length_entries c.other.inside.of.value.cells [] c.other.inside.notes.items
    c.other.invariant in
    let p = ap (λ s. length s.entries) (c.self.view_is ∙ c.meet.ensures.ours) in
    let q = ap (λ s. length s.entries) (c.other.view_is ∙ c.meet.ensures.theirs) in
    omega (arith, a, b, p, q, c.requires.shorter)

pub copy_rest-requires-clause-room : goal.copy_rest-requires-clause-room
copy_rest-requires-clause-room c =
    let b = length_entries c.other.inside.of.value.cells [] c.other.inside.notes.items
    c.other.invariant in
    let p = ap (λ s. s.room) (c.self.view_is ∙ c.meet.ensures.ours) in
    let q = ap (λ s. length s.entries) (c.other.view_is ∙ c.meet.ensures.theirs) in
    omega (arith, b, p, q, c.requires.room)

rest_of : (c : goal.After-copy_rest) → (AreKnown c.self.inside.of.value.cells []
    c.copy_rest.new.ours.items) × (entries_of c.copy_rest.new.ours.items ≡ c.args.other.now.entries)
rest_of c =
    let ns = c.self.inside.notes.items in
    let ms = c.other.inside.notes.items in
    let cells = c.self.inside.of.value.cells in
    let vs = c.self.view_is ∙ c.meet.ensures.ours in
    let vo = c.other.view_is ∙ c.meet.ensures.theirs in
    let row : c.other.inside.of.value.cells ≡ cells = ap (λ s. s.row.cells) vo
    ∙ ap (λ r. r.cells) c.requires.same ∙ sym (ap (λ s. s.row.cells) vs) in
    let hm : AreKnown cells [] ms = subst (λ (r : List ℕ). AreKnown r [] ms) row c.other.invariant
    in
    let a = length_entries cells [] ns c.self.invariant in
    let b = length_entries cells [] ms hm in
    let p = ap (λ s. length s.entries) vs in
    let q = ap (λ s. length s.entries) vo in
    let short : length ns ≤ length ms = omega (arith, a, b, p, q, c.requires.shorter) in
    let count : c.meet.result ≡ length ns = omega (
      arith,
      a,
      p,
      c.requires.shorter,
      c.meet.ensures.length,
    ) in
    let same : take (length ns) (entries_of ns) ≡ take (length ns) (entries_of ms) =
    (λ i. take (sym count i) (vs i).entries) ∙ c.meet.ensures.same
    ∙ (λ i. take (count i) (sym vo i).entries) in
    let whole : entries_of ns ≡ take (length ns) (entries_of ms) = sym (take_all (length ns)
    (entries_of ns) (omega (arith, a))) ∙ same in
    let rest = known_rest cells [] ns ms c.self.invariant hm short whole in
    let len : vec_len c.self.inside.notes ≡ length ns = omega arith in
    let items : c.copy_rest.new.ours.items ≡ ns ++ drop (length ns) ms = c.copy_rest.ensures.ours
    ∙ ap (λ k. ns ++ drop k ms) len in (
      subst (λ (xs : List (Note Published)). AreKnown cells [] xs) (sym items) rest.0,
      ap entries_of items ∙ rest.1 ∙ ap (λ s. s.entries) vo,
    )

pub invariant_of-self : goal.invariant_of-self
invariant_of-self c = (rest_of c).0

pub returns-clause-entries : goal.returns-clause-entries
returns-clause-entries c = (rest_of c).1
