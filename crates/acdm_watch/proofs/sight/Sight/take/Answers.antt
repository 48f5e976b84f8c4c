use Rattle.std.proofs.Common.{◌≡◌, ◌∷◌, [], ◌++◌, ◌<◌, ◌≤◌, ◌+◌, ℕ, List, length, take, get_or, sym}
use Rattle.std.proofs.Common.{subst, ◌∙◌, ap, arith}
use Rattle.std.proofs.lemmas.List.{append-nil, length-append, take-append-le}
use Rattle.once_cell.specs.declared.race.note.Note.{Note}
use Rattle.acdm_row.specs.declared.published.Published.{Published}
use Rattle.acdm_row.specs.Notes.{entries_of, entry_in, AreNotes}
use Rattle.acdm_row.proofs.Notes.{entries_append}
use Rattle.acdm_watch.proofs.Places.{are_length, are_push}
use Rattle.acdm_watch.proofs.sight.Sight.take.Goals as goal

pub push_reserved-requires : goal.push_reserved-requires
push_reserved-requires c =
    let a = are_length c.self.inside.front.row.cells c.self.inside.notes.items c.self.invariant.are
    in
    let p = ap (λ s. length s.entries) c.self.view_is in
    let q = ap (λ s. s.room) c.self.view_is in
    omega (arith, a, p, q, c.requires.room)

more_of : (c : goal.After-push_reserved) → entries_of c.push_reserved.new.self.items
    ≡ entries_of c.self.inside.notes.items ++ entry_in c.args.note.known
more_of c =
    let ns = c.self.inside.notes.items in
    ap entries_of c.push_reserved.ensures.items ∙ entries_append ns (c.args.note ∷ [])
    ∙ ap (λ es. entries_of ns ++ es) (append-nil (entry_in c.args.note.known))

pub invariant_of-self : goal.invariant_of-self
invariant_of-self c =
    let ns = c.self.inside.notes.items in
    let front = c.self.inside.front in
    let inv = c.self.invariant in
    let a = are_length front.row.cells ns inv.are in
    let p = ap (λ s. length s.entries) c.self.view_is in
    let q = ap (λ s. s.room) c.self.view_is in
    let r : front.row.cells ≡ c.args.self.now.row.cells = ap (λ s. s.row.cells) c.self.view_is in
    let room : length ns < length front.row.cells = omega (
      arith,
      a,
      p,
      c.requires.row,
      ap (λ (x :
          List ℕ). length x) r,
    ) in
    let at : length c.args.self.now.entries ≡ length ns = omega (arith, a, p) in
    let cell : c.args.note.cell ≡ get_or front.row.cells (length ns) 0 = c.requires.cell
    ∙ (λ i. get_or (sym r i) (at i) 0) in
    let grown : length c.push_reserved.new.self.items ≡ length ns + 1 = omega (
      arith,
      ap length
          c.push_reserved.ensures.items,
      length-append ns (c.args.note ∷ []),
    ) in
    let short : length front.entries ≤ length (entries_of ns) = omega (arith, a, inv.shorter) in
    record {
      are = subst (λ (ms : List (Note Published)). AreNotes front.row.cells ms) (sym
          c.push_reserved.ensures.items) (are_push front.row.cells ns c.args.note 0 inv.are room
          cell c.requires.some);
      begins = inv.begins ∙ sym (take-append-le (length front.entries) (entries_of ns) (entry_in
          c.args.note.known) short) ∙ ap (take (length front.entries)) (sym (more_of c));
      shorter = omega (arith, grown, inv.shorter);
      room = omega (arith, grown, a, p, q, c.requires.room);
    }

pub returns-clause-entries : goal.returns-clause-entries
returns-clause-entries c = more_of c ∙ ap (λ s. s.entries
    ++ entry_in c.args.note.known) c.self.view_is
