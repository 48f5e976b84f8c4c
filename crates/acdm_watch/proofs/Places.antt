-- Notes that know their cells, of which nothing says that they go on from each other.
use Rattle.std.proofs.Common.{◌≡◌, ℕ, ◌+◌, zero, suc, ◌<◌, ◌≤◌, List, [], ◌∷◌, ◌++◌, length, take}
use Rattle.std.proofs.Common.{get_or, refl, sym, ap, ◌∙◌, subst, arith, IsSome, IfSome, Option}
use Rattle.std.proofs.Common.{Some, None}
use Rattle.once_cell.specs.Once.{Agrees}
use Rattle.once_cell.specs.declared.race.note.Note.{Note}
use Rattle.acdm_step.specs.declared.entry.Entry.{Entry}
use Rattle.acdm_row.specs.declared.published.Published.{Published}
use Rattle.acdm_row.specs.Notes.{entry_in, entries_of, IsKnownAt, AreNotes}
use Rattle.acdm_row.specs.Views.{FrontView, RowView}
use Rattle.acdm_watch.specs.Sights.{IsSight}

first_entry : (n : Note Published) (ns : List (Note Published)) (p : Published) → n.known ≡ Some p
    → entries_of (n ∷ ns) ≡ p.entry ∷ entries_of ns
first_entry n ns p is = ap (λ o. entry_in o ++ entries_of ns) is

pub are_length : (cells : List ℕ) (ns : List (Note Published)) → AreNotes cells ns
    → length (entries_of ns) ≡ length ns
are_length cells [] h = refl
are_length [] (n ∷ ns) h = absurd h
are_length (c ∷ cells) (n ∷ ns) h = ap length (first_entry n ns h.0 h.2)
    ∙ ap suc (are_length cells ns h.3)

pub are_cell : (cells : List ℕ) (ns : List (Note Published)) → AreNotes cells ns → (k : ℕ)
    → k < length ns → (d : Note Published) (c : ℕ) → (get_or ns k d).cell ≡ get_or cells k c
are_cell cells [] h k below d c = absurd (omega arith)
are_cell [] (n ∷ ns) h k below d c = absurd h
are_cell (x ∷ cells) (n ∷ ns) h zero below d c = h.1
are_cell (x ∷ cells) (n ∷ ns) h (suc k) below d c = are_cell cells ns h.3 k (omega arith) d c

pub are_known : (cells : List ℕ) (ns : List (Note Published)) → AreNotes cells ns → (k : ℕ)
    → k < length ns → (d : Note Published)
    → (p : Published) × ((get_or ns k d).known ≡ Some p) × (take (suc k) (entries_of ns)
    ≡ take k (entries_of ns) ++ p.entry ∷ [])
are_known cells [] h k below d = absurd (omega arith)
are_known [] (n ∷ ns) h k below d = absurd h
are_known (x ∷ cells) (n ∷ ns) h zero below d = (h.0, h.2, ap (take 1) (first_entry n ns h.0 h.2))
are_known (x ∷ cells) (n ∷ ns) h (suc k) below d =
    let r = are_known cells ns h.3 k (omega arith) d in
    let first = first_entry n ns h.0 h.2 in (
      r.0,
      r.1,
      ap (take (suc (suc k))) first ∙ ap (λ es. h.0.entry ∷ es) r.2
          ∙ ap (λ es. take (suc k) es ++ r.0.entry ∷ []) (sym first),
    )

some_of : (o : Option Published) → IsSome o → (p : Published) × (o ≡ Some p)
some_of (Some p) h = (p, refl)
some_of None h = absurd (cc)

pub are_push : (cells : List ℕ) (ns : List (Note Published)) (n : Note Published) (c : ℕ)
    → AreNotes cells ns → length ns < length cells → n.cell ≡ get_or cells (length ns) c
    → IsSome n.known → AreNotes cells (ns ++ n ∷ [])
are_push [] ns n c h room cell some = absurd (omega arith)
are_push (x ∷ cells) [] n c h room cell some = let p = some_of n.known some in (p.0, cell, p.1, tt)
are_push (x ∷ cells) (m ∷ ns) n c h room cell some = (
  h.0,
  h.1,
  h.2,
  are_push cells ns n c h.3
      (omega arith) cell some,
)

agreed : (o : Option Published) (p q : Published) → o ≡ Some p → IfSome (Some q) (Agrees o) → p ≡ q
agreed o p q is h = subst (λ (x : Option Published). Agrees x q) is h

-- a note that knows what a pass knows of its cell has the entry that the pass has seen
pub same_more : (cells : List ℕ) (ns : List (Note Published)) (seen : List Entry) (at : ℕ) (d other
    : Note Published) → AreNotes cells ns → at < length ns → IsKnownAt other.known seen at
    → IfSome other.known (Agrees (get_or ns at d).known) → take at (entries_of ns) ≡ take at seen
    → take (at + 1) (entries_of ns) ≡ take (at + 1) seen
same_more cells ns seen at d other h below known met same =
    let p = are_known cells ns h at below d in
    let q = known.0 in
    let met2 : IfSome (Some q) (Agrees (get_or ns at d).known) = subst (λ (o : Option Published).
    IfSome o (Agrees (get_or ns at d).known)) known.1 met in
    let one : p.0 ≡ q = agreed (get_or ns at d).known p.0 q p.1 met2 in
    let next : at + 1 ≡ suc at = omega arith in
    ap (λ n. take n (entries_of ns)) next ∙ p.2 ∙ (λ i. same i ++ (one i).entry ∷ []) ∙ sym known.3

pub keeps : (a b : FrontView) (ns ms : List (Note Published)) → b.row ≡ a.row → b.entries
    ≡ a.entries → ms ≡ ns → length ns ≤ b.room → IsSight a ns → IsSight b ms
keeps a b ns ms rows entries items room h =
    let long = ap (λ (es : List Entry). length es) entries in
    let many = ap (λ (xs : List (Note Published)). length xs) items in
    record {
      are = subst (λ (r : RowView). AreNotes r.cells ms) (sym rows)
          (subst (λ (xs : List (Note Published)). AreNotes a.row.cells xs) (sym items) h.are);
      begins = entries ∙ h.begins ∙ (λ i. take (length (sym entries i)) (entries_of (sym items i)));
      shorter = omega (arith, long, many, h.shorter);
      room = omega (arith, many, room);
    }

pair_one : (cells : List ℕ) (ns ms : List (Note Published)) (at : ℕ) (d : Note Published)
    → AreNotes cells ns → AreNotes cells ms → at < length ns → at < length ms
    → IfSome (get_or ms at d).known (Agrees (get_or ns at d).known) → take at (entries_of ns)
    ≡ take at (entries_of ms) → take (at + 1) (entries_of ns) ≡ take (at + 1) (entries_of ms)
pair_one cells ns ms at d h k below under met same =
    let p = are_known cells ns h at below d in
    let q = are_known cells ms k at under d in
    let met2 : IfSome (Some q.0) (Agrees (get_or ns at d).known) = subst (λ (o : Option Published).
    IfSome o (Agrees (get_or ns at d).known)) q.1 met in
    let one : p.0 ≡ q.0 = agreed (get_or ns at d).known p.0 q.0 p.1 met2 in
    let next : at + 1 ≡ suc at = omega arith in
    ap (λ n. take n (entries_of ns)) next ∙ p.2 ∙ (λ i. same i ++ (one i).entry ∷ []) ∙ sym q.2
    ∙ ap (λ n. take n (entries_of ms)) (sym next)

-- notes of one cell that know the same have the same entry
pub pair_more : (cells : List ℕ) (ns ms : List (Note Published)) (at : ℕ) → AreNotes cells ns
    → AreNotes cells ms → at < length ns → at < length ms
    → ((d : Note Published) → IfSome (get_or ms at d).known (Agrees (get_or ns at d).known))
    → take at (entries_of ns) ≡ take at (entries_of ms)
    → take (at + 1) (entries_of ns) ≡ take (at + 1) (entries_of ms)
pair_more cells [] ms at h k below under met same = absurd (omega arith)
pair_more cells (n ∷ ns) ms at h k below under met same = pair_one cells (n ∷ ns) ms at n h k below
    under (met n) same
