-- A forward pass over a table: what its rows are before each slot.
use Rattle.std.proofs.Common.{◌≡◌, ℕ, zero, suc, ◌+◌, ◌-◌, ◌<◌, ◌≤◌, Bool, true, false, cond, eqb}
use Rattle.std.proofs.Common.{List, [], ◌∷◌, ◌++◌, length, set, replicate, Option, Some, None, refl}
use Rattle.std.proofs.Common.{sym, ap, subst, ◌∙◌, arith, below_more, length-set, get_or-set_same}
use Rattle.std.proofs.Common.{get_or-set_other, ◌≢◌, add-one}
use Rattle.std.specs.Prelude.{slice_get, slice_index_or, MatchOption}
use Rattle.std.proofs.lemmas.Bool.{eqb-true, eqb-false}
use Rattle.bpf_decode.specs.declared.op.Op.{Op}
use Rattle.bpf_helpers.specs.Promise.{Promise}
use Rattle.bpf_regstate.specs.Shape.{Shape}
use Rattle.bpf_regstate.specs.Faults.{faults, least}
use Rattle.bpf_regstate.specs.Edges.{edges}
use Rattle.bpf_regstate.specs.States.{Accepts, IsFirstFault, fault_at, fault_of, into, sends}
use Rattle.bpf_regstate.specs.States.{start_shape, state_at, states, unless_fault}
use Rattle.bpf_regstate.specs.Pass.{with_edge, with_edges, so_far}
use Rattle.bpf_regstate.proofs.JoinsHold.{length-states, states_at}
use Rattle.bpf_verifier.specs.Explained.{Explains, slots_told}
use Rattle.bpf_verifier.specs.Table.{put_edge, sent, sent_from}
use Rattle.bpf_verifier.specs.Verdict.{code_of}
use Rattle.bpf_verifier.specs.declared.explanation.Explanation.{Explanation}

-- ---- edges that are put into a table

put_length : (table : List (Option Shape)) (e : ℕ × Shape)
    → length (put_edge table e) ≡ length table
put_length table e = length-set table e.0 (with_edge (slice_index_or table e.0 None) e.1)

pub sent_length : (table : List (Option Shape)) (es : List (ℕ × Shape))
    → length (sent table es) ≡ length table
sent_length table [] = refl
sent_length table (e ∷ es) = sent_length (put_edge table e) es ∙ put_length table e

-- a row after one edge, by whether the edge leads to it
abbrev after_edge : Bool → Option Shape → Shape → Option Shape
after_edge true row s = with_edge row s
after_edge false row s = row

put_row : (b : Bool) (table : List (Option Shape)) (e : ℕ × Shape) (to : ℕ) → to < length table
    → eqb e.0 to ≡ b
    → slice_index_or (put_edge table e) to None ≡ after_edge b (slice_index_or table to None) e.1
put_row true table e to inside is =
    let same : e.0 ≡ to = eqb-true e.0 to is in
    let there : e.0 < length table = omega arith in
    subst (λ (k : ℕ). slice_index_or (put_edge table e) k None
    ≡ with_edge (slice_index_or table k None) e.1) same
    (get_or-set_same table e.0 (with_edge (slice_index_or table e.0 None) e.1) None there)
put_row false table e to inside is =
    let other : to ≢ e.0 = λ same. eqb-false e.0 to is (sym same) in
    get_or-set_other table e.0 to (with_edge (slice_index_or table e.0 None) e.1) None other

chosen_row : (b : Bool) (row : Option Shape) (s : Shape) (ss : List Shape)
    → with_edges (after_edge b row s) ss ≡ with_edges row (cond b (s ∷ ss) ss)
chosen_row true row s ss = refl
chosen_row false row s ss = refl

-- each row gets what the edges bring to it
pub sent_row : (table : List (Option Shape)) (es : List (ℕ × Shape)) (to : ℕ) → to < length table
    → slice_index_or (sent table es) to None
    ≡ with_edges (slice_index_or table to None) (into to es)
sent_row table [] to inside = refl
sent_row table (e ∷ es) to inside =
    let still : to < length (put_edge table e) = omega (arith, put_length table e) in
    sent_row (put_edge table e) es to still
    ∙ ap (λ (row : Option Shape). with_edges row (into to es))
    (put_row (eqb e.0 to) table e to inside refl)
    ∙ chosen_row (eqb e.0 to) (slice_index_or table to None) e.1 (into to es)

-- ---- the pass

module _ (record_length : ℕ) (ops : List Op) (sigs : List (ℕ × Promise)) where
  -- before a slot: each row from it on has what the edges of earlier slots bring, and none of those
  -- has a fault
  pub record Passed (slot : ℕ) (table : List (Option Shape)) : Type 0 where
    pub long : length table ≡ length ops
    pub rows : (to : ℕ) → slot ≤ to → to < length ops
        → slice_index_or table to None ≡ so_far record_length ops sigs slot to
    pub clear : (k : ℕ) → k < slot → fault_at record_length ops sigs k ≡ None

  abbrev nothing : Option Shape
  nothing = None

  none_in : (n k : ℕ) → slice_index_or (replicate n nothing) k None ≡ None
  none_in zero k = refl
  none_in (suc n) zero = refl
  none_in (suc n) (suc k) = none_in n k

  length_none : (n : ℕ) → length (replicate n nothing) ≡ n
  length_none zero = refl
  length_none (suc n) = ap suc (length_none n)

  first_row : so_far record_length ops sigs 0 0 ≡ Some (start_shape record_length)
      → ((to : ℕ) → so_far record_length ops sigs 0 (to + 1) ≡ None)
      → (n to : ℕ) → slice_index_or (Some (start_shape record_length) ∷ replicate n None) to None
      ≡ so_far record_length ops sigs 0 to
  first_row start empty n zero = sym start
  first_row start empty n (suc to) = none_in n to
      ∙ sym (let one : to + 1 ≡ suc to = omega arith in rw one at (empty to))

  pub begins : so_far record_length ops sigs 0 0 ≡ Some (start_shape record_length)
      → ((to : ℕ) → so_far record_length ops sigs 0 (to + 1) ≡ None)
      → 0 < length ops → Passed 0 (Some (start_shape record_length) ∷ replicate (length ops - 1) None)
  begins start empty some = record {
    long = omega (arith, length_none (length ops - 1));
    rows = λ to from inside. first_row start empty (length ops - 1) to;
    clear = λ k before. absurd (omega arith);
  }

  -- the fault of a slot, by what the table has there
  here : (slot : ℕ) (table : List (Option Shape)) (op : Op) → Passed slot table → slot < length ops
      → slice_get ops slot ≡ Some op
      → fault_at record_length ops sigs slot ≡ least
      (faults record_length ops sigs slot op (slice_index_or table slot None))
  here slot table op passed inside is =
      let row = passed.rows slot (omega arith) inside in
      ap (λ (o : Option Op). fault_of record_length ops sigs slot o (state_at record_length ops sigs slot)) is
      ∙ ap (λ (s : Option Shape). least (faults record_length ops sigs slot op s)) (sym row)

  -- the first fault is found
  pub found : (slot code : ℕ) (table : List (Option Shape)) (op : Op) → Passed slot table
      → slot < length ops → slice_get ops slot ≡ Some op
      → Some code ≡ least (faults record_length ops sigs slot op (slice_index_or table slot None))
      → IsFirstFault record_length ops sigs slot code
  found slot code table op passed inside is least_is = record {
    inside = inside;
    fault = here slot table op passed inside is ∙ sym least_is;
    before = passed.clear;
  }

  -- what a slot without a fault sends
  sends_is : (slot : ℕ) (op : Op) (s : Shape) → least (faults record_length ops sigs slot op (Some s)) ≡ None
      → slice_get ops slot ≡ Some op
      → sends record_length ops sigs slot (slice_get ops slot) (Some s) ≡ edges record_length sigs slot op s
  sends_is slot op s none is =
      ap (λ (o : Option Op). sends record_length ops sigs slot o (Some s)) is
      ∙ ap (λ (fault : Option ℕ). unless_fault fault (edges record_length sigs slot op s)) none

  sends_nothing : (slot : ℕ) (op : Op) → slice_get ops slot ≡ Some op
      → sends record_length ops sigs slot (slice_get ops slot) None ≡ []
  sends_nothing slot op is = ap (λ (o : Option Op). sends record_length ops sigs slot o None) is

  sent_on : (slot to : ℕ) (table : List (Option Shape)) (op : Op) (state : Option Shape)
      → to < length table
      → least (faults record_length ops sigs slot op state) ≡ None → slice_get ops slot ≡ Some op
      → slice_index_or (sent_from record_length sigs slot op state table) to None
      ≡ with_edges (slice_index_or table to None)
      (into to (sends record_length ops sigs slot (slice_get ops slot) state))
  sent_on slot to table op None inside none is =
      ap (λ (es : List (ℕ × Shape)). with_edges (slice_index_or table to None) (into to es))
      (sym (sends_nothing slot op is))
  sent_on slot to table op (Some s) inside none is =
      sent_row table (edges record_length sigs slot op s) to inside
      ∙ ap (λ (es : List (ℕ × Shape)). with_edges (slice_index_or table to None) (into to es))
      (sym (sends_is slot op s none is))

  kept_length : (slot : ℕ) (table : List (Option Shape)) (op : Op) (state : Option Shape)
      → length (sent_from record_length sigs slot op state table) ≡ length table
  kept_length slot table op None = refl
  kept_length slot table op (Some s) = sent_length table (edges record_length sigs slot op s)

  abbrev Step : ℕ → Type 0
  Step slot = (to : ℕ) → so_far record_length ops sigs (slot + 1) to
      ≡ with_edges (so_far record_length ops sigs slot to)
      (into to (sends record_length ops sigs slot (slice_get ops slot) (state_at record_length ops sigs slot)))

  -- one more slot
  pub goes_on : (slot : ℕ) (table : List (Option Shape)) (op : Op) → Step slot → Passed slot table
      → slot < length ops → slice_get ops slot ≡ Some op
      → least (faults record_length ops sigs slot op (slice_index_or table slot None)) ≡ None
      → Passed (slot + 1) (sent_from record_length sigs slot op (slice_index_or table slot None)
      (set table slot None))
  goes_on slot table op step passed inside is none =
      let state = slice_index_or table slot None in
      let rest : List (Option Shape) = set table slot None in
      let same : length rest ≡ length table = length-set table slot None in
      record {
        long = kept_length slot rest op state ∙ same ∙ passed.long;
        rows = λ to from in_ops.
            let in_table : to < length rest = omega (arith, same, passed.long) in
            let later : slot ≤ to = omega arith in
            let other : to ≢ slot = omega arith in
            sent_on slot to rest op state in_table none is
            ∙ ap (λ (row : Option Shape). with_edges row
            (into to (sends record_length ops sigs slot (slice_get ops slot) state)))
            (get_or-set_other table slot to None None other ∙ passed.rows to later in_ops)
            ∙ ap (λ (s : Option Shape). with_edges (so_far record_length ops sigs slot to)
            (into to (sends record_length ops sigs slot (slice_get ops slot) s)))
            (passed.rows slot (omega arith) inside)
            ∙ sym (step to);
        clear = below_more (λ k. fault_at record_length ops sigs k ≡ None) slot passed.clear
            (here slot table op passed inside is ∙ none);
      }

  -- ---- the states before a slot, as a list

  pub none_known : states record_length ops sigs 0 ≡ []
  unfolding states
  none_known = refl

  -- and what waits at the slot
  pub one_known : (slot : ℕ) (table known : List (Option Shape)) (state : Option Shape)
      → Passed slot table → slot < length ops → known ≡ states record_length ops sigs slot
      → state ≡ slice_index_or table slot None
      → known ++ state ∷ [] ≡ states record_length ops sigs (slot + 1)
  unfolding states
  one_known slot table known state passed inside is here =
      let row : state ≡ state_at record_length ops sigs slot =
      here ∙ passed.rows slot (omega arith) inside in
      let one : slot + 1 ≡ suc slot = add-one slot in
      rw one (ap (λ (l : List (Option Shape)). l ++ state ∷ []) is
      ∙ ap (λ (s : Option Shape). states record_length ops sigs slot ++ s ∷ []) row)

  pub each_known : (n : ℕ) (known : List (Option Shape)) → known ≡ states record_length ops sigs n
      → (slot : ℕ) → slot < length known
      → slice_get known slot ≡ Some (state_at record_length ops sigs slot)
  each_known n known is slot inside =
      let less : slot < n =
      omega (arith, ap (λ (l : List (Option Shape)). length l) is, length-states record_length ops sigs n) in
      ap (λ (l : List (Option Shape)). slice_get l slot) is ∙ states_at record_length ops sigs n slot less

  -- what is told of as many slots as there are states
  pub explained : (told : Explanation)
      → told.states.items ≡ states record_length ops sigs (slots_told told.fault (length ops))
      → MatchOption told.fault (Accepts record_length ops sigs)
      (λ found. IsFirstFault record_length ops sigs found.1 (code_of found.0)) → Explains record_length ops sigs told
  explained told is verdict =
      let n = slots_told told.fault (length ops) in
      record {
        states = each_known n told.states.items is;
        slots = ap (λ (l : List (Option Shape)). length l) is ∙ length-states record_length ops sigs n;
        verdict = verdict;
      }

-- an instruction or a tail stands at each slot
pub op_in : (ops : List Op) (slot : ℕ) → slot < length ops
    → (op : Op) × (slice_get ops slot ≡ Some op)
op_in [] slot inside = absurd (omega arith)
op_in (op ∷ ops) zero inside = (op, refl)
op_in (op ∷ ops) (suc slot) inside = op_in ops slot (omega arith)
