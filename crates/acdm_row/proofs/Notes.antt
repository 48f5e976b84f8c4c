-- Lists of notes, each of which knows all that was published before it.
use Rattle.std.proofs.Common.{◌≡◌, ℕ, ◌+◌, zero, suc, ◌<◌, ◌≤◌, List, [], ◌∷◌, ◌++◌, length, take}
use Rattle.std.proofs.Common.{drop, get_or, refl, sym, ap, ◌∙◌, subst, arith, IsSome, IfSome}
use Rattle.std.proofs.Common.{Option, Some, None, append_assoc}
use Rattle.once_cell.specs.Once.{Agrees}
use Rattle.once_cell.specs.declared.race.note.Note.{Note}
use Rattle.acdm_step.specs.declared.entry.Entry.{Entry}
use Rattle.acdm_row.specs.declared.published.Published.{Published}
use Rattle.acdm_row.specs.Notes.{before_of, entry_in, entries_of, AreKnown, IsKnownAt}
use Rattle.std.proofs.lemmas.List.{length-append}
use Rattle.std.proofs.Math.Seq.{take-suc, take-append_seam}

first_entry : (n : Note Published) (ns : List (Note Published)) (p : Published) → n.known ≡ Some p
    → entries_of (n ∷ ns) ≡ p.entry ∷ entries_of ns
first_entry n ns p is = ap (λ o. entry_in o ++ entries_of ns) is

pub length_entries : (cells : List ℕ) (past : List Entry) (ns : List (Note Published))
    → AreKnown cells past ns → length (entries_of ns) ≡ length ns
length_entries cells past [] h = refl
length_entries [] past (n ∷ ns) h = absurd h
length_entries (c ∷ cells) past (n ∷ ns) h = ap length (first_entry n ns h.0 h.2)
    ∙ ap suc (length_entries cells (past ++ h.0.entry ∷ []) ns h.4)

pub cell_at : (cells : List ℕ) (past : List Entry) (ns : List (Note Published))
    → AreKnown cells past ns → (k : ℕ) → k < length ns → (d : Note Published) (c : ℕ)
    → (get_or ns k d).cell ≡ get_or cells k c
cell_at cells past [] h k below d c = absurd (omega arith)
cell_at [] past (n ∷ ns) h k below d c = absurd h
cell_at (x ∷ cells) past (n ∷ ns) h zero below d c = h.1
cell_at (x ∷ cells) past (n ∷ ns) h (suc k) below d c = cell_at cells (past
    ++ h.0.entry ∷ []) ns h.4 k (omega arith) d c

-- a note knows the whole journal up to its cell
pub known_at : (cells : List ℕ) (past : List Entry) (ns : List (Note Published))
    → AreKnown cells past ns → (k : ℕ) → k < length ns → (d : Note Published)
    → (p : Published) × ((get_or ns k d).known ≡ Some p) × (past ++ take (suc k) (entries_of ns)
    ≡ before_of p ++ p.entry ∷ [])
known_at cells past [] h k below d = absurd (omega arith)
known_at [] past (n ∷ ns) h k below d = absurd h
known_at (x ∷ cells) past (n ∷ ns) h zero below d = (
  h.0,
  h.2,
  ap (λ es. past
      ++ take 1 es) (first_entry n ns h.0 h.2) ∙ ap (λ es. es ++ h.0.entry ∷ []) (sym h.3),
)
known_at (x ∷ cells) past (n ∷ ns) h (suc k) below d =
    let e = h.0.entry in
    let rest = known_at cells (past ++ e ∷ []) ns h.4 k (omega arith) d in (
      rest.0,
      rest.1,
      ap (λ es. past ++ take (suc (suc k)) es) (first_entry n ns h.0 h.2)
          ∙ sym (append_assoc past (e ∷ []) (take (suc k) (entries_of ns))) ∙ rest.2,
    )

agreed : (o : Option Published) (p q : Published) → o ≡ Some p → IfSome (Some q) (Agrees o) → p ≡ q
agreed o p q is h = subst (λ (x : Option Published). Agrees x q) is h

-- notes of one cell that know the same stand for the same journal up to it
pub same_upto : (cells : List ℕ) (ns ms : List (Note Published)) → AreKnown cells [] ns
    → AreKnown cells [] ms → (k : ℕ) → k < length ns → k < length ms → (d : Note Published)
    → IfSome (get_or ms k d).known (Agrees (get_or ns k d).known) → take (suc k) (entries_of ns)
    ≡ take (suc k) (entries_of ms)
same_upto cells ns ms hn hm k a b d same =
    let p = known_at cells [] ns hn k a d in
    let q = known_at cells [] ms hm k b d in
    let met : IfSome (Some q.0) (Agrees (get_or ns k d).known) = subst (λ (o : Option Published).
    IfSome o (Agrees (get_or ns k d).known)) q.1 same in
    let one : p.0 ≡ q.0 = agreed (get_or ns k d).known p.0 q.0 p.1 met in
    p.2 ∙ ap (λ x. before_of x ++ x.entry ∷ []) one ∙ sym q.2

-- the same, where any note may stand for a missing one
pub same_upto_any : (cells : List ℕ) (ns ms : List (Note Published)) → AreKnown cells [] ns
    → AreKnown cells [] ms → (k : ℕ) → k < length ns → k < length ms
    → ((d : Note Published) → IfSome (get_or ms k d).known (Agrees (get_or ns k d).known))
    → take (suc k) (entries_of ns) ≡ take (suc k) (entries_of ms)
same_upto_any cells [] ms hn hm k a b same = absurd (omega arith)
same_upto_any cells (n ∷ ns) ms hn hm k a b same = same_upto cells (n ∷ ns) ms hn hm k a b n (same
    n)

pub entries_append : (ns ms : List (Note Published)) → entries_of (ns ++ ms) ≡ entries_of ns
    ++ entries_of ms
entries_append [] ms = refl
entries_append (n ∷ ns) ms = ap (λ es. entry_in n.known ++ es) (entries_append ns ms)
    ∙ sym (append_assoc (entry_in n.known) (entries_of ns) (entries_of ms))

some_of : (o : Option Published) → IsSome o → (p : Published) × (o ≡ Some p)
some_of (Some p) h = (p, refl)
some_of None h = absurd (cc)

-- one note more
pub known_push : (cells : List ℕ) (past : List Entry) (ns : List (Note Published)) (n : Note
    Published) (c : ℕ) → AreKnown cells past ns → length ns < length cells
    → n.cell ≡ get_or cells (length ns) c → (p : Published) → n.known ≡ Some p → before_of p ≡ past
    ++ entries_of ns → AreKnown cells past (ns ++ n ∷ [])
known_push [] past ns n c h room cell p known before = absurd (omega arith)
known_push (x ∷ cells) past [] n c h room cell p known before = (
  p,
  cell,
  known,
  before
      ∙ append_nil past,
  tt,
)
  where
    append_nil : (es : List Entry) → es ++ [] ≡ es
    append_nil [] = refl
    append_nil (e ∷ es) = ap (λ xs. e ∷ xs) (append_nil es)
known_push (x ∷ cells) past (m ∷ ns) n c h room cell p known before =
    let e = h.0.entry in
    let more = before ∙ ap (λ es. past ++ es) (first_entry m ns h.0 h.2)
    ∙ sym (append_assoc past (e ∷ []) (entries_of ns)) in (
      h.0,
      h.1,
      h.2,
      h.3,
      known_push cells (past ++ e ∷ []) ns n c h.4 (omega arith) cell p known
          more,
    )

pub known_more : (cells : List ℕ) (ns : List (Note Published)) (n : Note Published) (c : ℕ)
    → AreKnown cells [] ns → length ns < length cells
    → n.cell ≡ get_or cells (length ns) c → IsSome n.known → IfSome n.known (λ p. before_of p
    ≡ entries_of ns) → AreKnown cells [] (ns ++ n ∷ [])
known_more cells ns n c h room cell some before =
    let p = some_of n.known some in
    known_push cells [] ns n c h room cell p.0 p.1 (subst (λ (o : Option Published). IfSome o (λ x.
    before_of x ≡ entries_of ns)) p.1 before)

-- the notes that are missing make up the rest
pub known_rest : (cells : List ℕ) (past : List Entry) (ns ms : List (Note Published))
    → AreKnown cells past ns → AreKnown cells past ms → length ns ≤ length ms
    → entries_of ns ≡ take (length ns) (entries_of ms)
    → AreKnown cells past (ns ++ drop (length ns) ms) × (entries_of (ns ++ drop (length ns) ms)
    ≡ entries_of ms)
known_rest cells past [] ms hn hm short same = (hm, refl)
known_rest cells past (n ∷ ns) [] hn hm short same = absurd (omega arith)
known_rest [] past (n ∷ ns) (m ∷ ms) hn hm short same = absurd hn
known_rest (c ∷ cells) past (n ∷ ns) (m ∷ ms) hn hm short same =
    let e = hn.0.entry in
    let f = hm.0.entry in
    let cut : e ∷ entries_of ns ≡ f ∷ take (length ns) (entries_of ms) = sym (first_entry n ns hn.0
    hn.2) ∙ same ∙ ap (take (suc (length ns))) (first_entry m ms hm.0 hm.2) in
    let first : e ≡ f = cc in
    let tail : entries_of ns ≡ take (length ns) (entries_of ms) = cc in
    let theirs : AreKnown cells (past ++ e ∷ []) ms = subst (λ x. AreKnown cells (past
    ++ x ∷ []) ms) (sym first) hm.4 in
    let rest = known_rest cells (past ++ e ∷ []) ns ms hn.4 theirs (omega arith) tail in (
      (hn.0, hn.1, hn.2, hn.3, rest.0),
      first_entry n (ns ++ drop (length ns) ms) hn.0 hn.2
          ∙ (λ i. first i ∷ rest.1 i) ∙ sym (first_entry m ms hm.0 hm.2),
    )

-- what is known at a place
pub known_here : (cells : List ℕ) (ns : List (Note Published)) → AreKnown cells [] ns → (k : ℕ)
    → k < length ns → (d : Note Published) → IsKnownAt (get_or ns k d).known (entries_of ns) k
known_here cells ns h k below d =
    let p = known_at cells [] ns h k below d in
    let es = entries_of ns in
    let long : length es ≡ length ns = length_entries cells [] ns h in
    let before : take k es ≡ before_of p.0 = shorter es (before_of p.0) p.0.entry k (omega (
      arith,
      long,
    )) p.2 in
    let next : k + 1 ≡ suc k = omega arith in (
      p.0,
      p.1,
      sym before,
      ap (λ n. take n es) next ∙ p.2 ∙ ap (λ xs. xs
          ++ p.0.entry ∷ []) (sym before),
    )
  where
    shorter : (es bs : List Entry) (e : Entry) (k : ℕ) → k < length es → take (suc k) es ≡ bs
        ++ e ∷ [] → take k es ≡ bs
    shorter es bs e k below same =
        let both : take k es ++ get_or es k e ∷ [] ≡ bs ++ e ∷ [] = sym (take-suc es k e below)
        ∙ same in
        let n : length (take k es) ≡ length bs = omega (
          arith,
          ap length both,
          length-append (take k
              es) (get_or es k e ∷ []),
          length-append bs (e ∷ []),
        ) in
        sym (take-append_seam (take k es) (get_or es k e ∷ [])) ∙ (λ i. take (n i) (both i))
        ∙ take-append_seam bs (e ∷ [])

pub length_cells : (cells : List ℕ) (past : List Entry) (ns : List (Note Published))
    → AreKnown cells past ns → length ns ≤ length cells
length_cells cells past [] h = omega arith
length_cells [] past (n ∷ ns) h = absurd h
length_cells (c ∷ cells) past (n ∷ ns) h = omega (
  arith,
  length_cells cells (past
      ++ h.0.entry ∷ []) ns h.4,
)
