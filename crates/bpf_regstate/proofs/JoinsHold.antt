-- A join holds what each side holds, and a state that is state_from together holds what each edge
-- brings.
use Rattle.std.proofs.Common.{◌≡◌, ℕ, zero, suc, ◌+◌, ◌<◌, ◌≤◌, Bool, true, false, ◌&&◌, cond, eqb}
use Rattle.std.proofs.Common.{List, [], ◌∷◌, ◌++◌, length, Option, Some, None, refl, ap, subst, ◌∙◌}
use Rattle.std.proofs.Common.{arith, inl, inr, get_or, add-zero, zero-add}
use Rattle.std.specs.Prelude.{slice_get}
use Rattle.std.proofs.lemmas.Bool.{cases_lt}
use Rattle.std.proofs.Common.{eq-eqb, ⊎_elim, length-append}
use Rattle.bpf_decode.specs.declared.op.Op.{Op}
use Rattle.bpf_helpers.specs.Promise.{Promise}
use Rattle.bpf_semantics.specs.Machine.{Machine}
use Rattle.bpf_regstate.specs.declared.reg.Reg.{Reg}
use Rattle.bpf_regstate.specs.declared.reg.Reg.TheVariants.{Uninit, Known}
use Rattle.bpf_regstate.specs.Shape.{Shape}
use Rattle.bpf_regstate.specs.Holds.{HoldsWord, Holds, HoldsAt, SomeHolds, EdgeHolds, stack_word}
use Rattle.bpf_regstate.specs.Joins.{join_reg, join_registers, join_marks, joined}
use Rattle.bpf_regstate.specs.States.{join_with, join_all, into, sends, arriving, entering}
use Rattle.bpf_regstate.specs.States.{state_from, states, state_at}

reg_left : (x y : Reg) (o : Option ℕ) → HoldsWord x o → HoldsWord (join_reg x y) o
reg_left Uninit y o h = tt
reg_left (Known a) Uninit o h = tt
reg_left (Known a) (Known b) None h = h
reg_left (Known a) (Known b) (Some v) h =
    record { low = omega (arith, h.low); high = omega (arith, h.high) }

reg_right : (x y : Reg) (o : Option ℕ) → HoldsWord y o → HoldsWord (join_reg x y) o
reg_right Uninit y o h = tt
reg_right (Known a) Uninit o h = tt
reg_right (Known a) (Known b) None h = h
reg_right (Known a) (Known b) (Some v) h =
    record { low = omega (arith, h.low); high = omega (arith, h.high) }

registers_left : (xs ys : List Reg) (r : ℕ) (o : Option ℕ) → HoldsWord (get_or xs r Uninit) o
    → HoldsWord (get_or (join_registers xs ys) r Uninit) o
registers_left [] ys r o h = tt
registers_left (x ∷ xs) [] r o h = tt
registers_left (x ∷ xs) (y ∷ ys) zero o h = reg_left x y o h
registers_left (x ∷ xs) (y ∷ ys) (suc r) o h = registers_left xs ys r o h

registers_right : (xs ys : List Reg) (r : ℕ) (o : Option ℕ) → HoldsWord (get_or ys r Uninit) o
    → HoldsWord (get_or (join_registers xs ys) r Uninit) o
registers_right [] ys r o h = tt
registers_right (x ∷ xs) [] r o h = tt
registers_right (x ∷ xs) (y ∷ ys) zero o h = reg_right x y o h
registers_right (x ∷ xs) (y ∷ ys) (suc r) o h = registers_right xs ys r o h

and_left : (a b : Bool) → (a && b) ≡ true → a ≡ true
and_left true b e = refl
and_left false b e = e

and_right : (a b : Bool) → (a && b) ≡ true → b ≡ true
and_right true b e = e
and_right false b e = absurd cc

marks_left : (xs ys : List Bool) (k : ℕ) → get_or (join_marks xs ys) k false ≡ true
    → get_or xs k false ≡ true
marks_left [] ys k e = e
marks_left (x ∷ xs) [] k e = absurd cc
marks_left (x ∷ xs) (y ∷ ys) zero e = and_left x y e
marks_left (x ∷ xs) (y ∷ ys) (suc k) e = marks_left xs ys k e

marks_right : (xs ys : List Bool) (k : ℕ) → get_or (join_marks xs ys) k false ≡ true
    → get_or ys k false ≡ true
marks_right [] ys k e = absurd cc
marks_right (x ∷ xs) [] k e = absurd cc
marks_right (x ∷ xs) (y ∷ ys) zero e = and_right x y e
marks_right (x ∷ xs) (y ∷ ys) (suc k) e = marks_right xs ys k e

pub joined_left : (s t : Shape) (m : Machine) → Holds s m → Holds (joined s t) m
joined_left s t m h = record {
  registers = λ r. registers_left s.registers t.registers r (get_or m.registers r None)
      (h.registers r);
  marks = λ k e. h.marks k (marks_left s.marks t.marks k e);
  words = λ w. registers_left s.words t.words w (stack_word m.stack w) (h.words w);
}

pub joined_right : (s t : Shape) (m : Machine) → Holds t m → Holds (joined s t) m
joined_right s t m h = record {
  registers = λ r. registers_right s.registers t.registers r (get_or m.registers r None)
      (h.registers r);
  marks = λ k e. h.marks k (marks_right s.marks t.marks k e);
  words = λ w. registers_right s.words t.words w (stack_word m.stack w) (h.words w);
}

-- ---- some state of a list, some edge of a list

with_left : (s : Shape) (o : Option Shape) (m : Machine) → Holds s m → HoldsAt (join_with s o) m
with_left s None m h = h
with_left s (Some t) m h = joined_left s t m h

with_right : (s : Shape) (o : Option Shape) (m : Machine) → HoldsAt o m → HoldsAt (join_with s o) m
with_right s None m h = elim h [ ]
with_right s (Some t) m h = joined_right s t m h

pub all_hold : (ss : List Shape) (m : Machine) → SomeHolds m ss → HoldsAt (join_all ss) m
all_hold [] m h = elim h [ ]
all_hold (s ∷ ss) m (inl h) = with_left s (join_all ss) m h
all_hold (s ∷ ss) m (inr h) = with_right s (join_all ss) m (all_hold ss m h)

some_append_left : (xs ys : List Shape) (m : Machine) → SomeHolds m xs → SomeHolds m (xs ++ ys)
some_append_left [] ys m h = elim h [ ]
some_append_left (x ∷ xs) ys m (inl h) = inl h
some_append_left (x ∷ xs) ys m (inr h) = inr (some_append_left xs ys m h)

some_append_right : (xs ys : List Shape) (m : Machine) → SomeHolds m ys → SomeHolds m (xs ++ ys)
some_append_right [] ys m h = h
some_append_right (x ∷ xs) ys m h = inr (some_append_right xs ys m h)

some_chosen : (b : Bool) (s : Shape) (ss : List Shape) (m : Machine) → b ≡ true → Holds s m
    → SomeHolds m (cond b (s ∷ ss) ss)
some_chosen true s ss m e h = inl h
some_chosen false s ss m e h = absurd cc

some_kept : (b : Bool) (s : Shape) (ss : List Shape) (m : Machine) → SomeHolds m ss
    → SomeHolds m (cond b (s ∷ ss) ss)
some_kept true s ss m h = inr h
some_kept false s ss m h = h

into_holds : (es : List (ℕ × Shape)) (to : ℕ) (m : Machine) → EdgeHolds m to es
    → SomeHolds m (into to es)
into_holds [] to m h = elim h [ ]
into_holds (e ∷ es) to m (inl h) =
    some_chosen (eqb e.0 to) e.1 (into to es) m (eq-eqb e.0 to h.0) h.1
into_holds (e ∷ es) to m (inr h) = some_kept (eqb e.0 to) e.1 (into to es) m (into_holds es to m h)

module _ (record_length : ℕ) (ops : List Op) (sigs : List (ℕ × Promise)) where
  arriving_holds : (ss : List (Option Shape)) (k from to : ℕ) (o : Option Shape) (m : Machine)
      → slice_get ss k ≡ Some o → EdgeHolds m to
      (sends record_length ops sigs (from + k) (slice_get ops (from + k)) o)
      → SomeHolds m (arriving record_length ops sigs to from ss)
  arriving_holds [] k from to o m e h = absurd cc
  arriving_holds (s ∷ ss) zero from to o m e h =
      let same : s ≡ o = cc in
      some_append_left (into to (sends record_length ops sigs from (slice_get ops from) s))
      (arriving record_length ops sigs to (suc from) ss) m
      (into_holds (sends record_length ops sigs from (slice_get ops from) s) to m
      (rw same (rw add-zero at h)))
  arriving_holds (s ∷ ss) (suc k) from to o m e h =
      some_append_right (into to (sends record_length ops sigs from (slice_get ops from) s))
      (arriving record_length ops sigs to (suc from) ss) m
      (arriving_holds ss k (suc from) to o m e (let same : from + suc k ≡ suc from + k = omega arith
      in rw same at h))

  pub length-states : (n : ℕ) → length (states record_length ops sigs n) ≡ n
  unfolding states
  length-states zero = refl
  length-states (suc n) = omega (
    arith,
    length-append (states record_length ops sigs n)
        (state_from record_length ops sigs n (states record_length ops sigs n) ∷ []),
    length-states n,
  )

  get_end : (xs : List (Option Shape)) (x : Option Shape)
      → slice_get (xs ++ x ∷ []) (length xs) ≡ Some x
  get_end [] x = refl
  get_end (y ∷ xs) x = get_end xs x

  get_front : (xs : List (Option Shape)) (x : Option Shape) (k : ℕ) → k < length xs
      → slice_get (xs ++ x ∷ []) k ≡ slice_get xs k
  get_front [] x k h = absurd (omega arith)
  get_front (y ∷ xs) x zero h = refl
  get_front (y ∷ xs) x (suc k) h = get_front xs x k (omega arith)

  -- the list of states has the state at each slot
  pub states_at : (n k : ℕ) → k < n
      → slice_get (states record_length ops sigs n) k ≡ Some (state_at record_length ops sigs k)
  unfolding states
  states_at zero k h = absurd (omega arith)
  states_at (suc n) k h = ⊎_elim
      (λ (less : k < n). get_front (states record_length ops sigs n)
      (state_at record_length ops sigs n) k (omega (arith, length-states n))
      ∙ states_at n k less)
      (λ (same : n ≤ k).
      let at : length (states record_length ops sigs n) ≡ k = omega (arith, length-states n) in
      let here : n ≡ k = omega arith in
      subst (λ (j : ℕ). slice_get (states record_length ops sigs n
      ++ state_at record_length ops sigs n ∷ []) j ≡ Some (state_at record_length ops sigs k))
      at
      (get_end (states record_length ops sigs n) (state_at record_length ops sigs n)
      ∙ ap (λ (j : ℕ). Some (state_at record_length ops sigs j)) here))
      (cases_lt k n)

  -- what an edge of a smaller slot brings is held at its end
  pub edge_held : (slot to : ℕ) (m : Machine) → slot < to
      → EdgeHolds m to (sends record_length ops sigs slot (slice_get ops slot)
      (state_at record_length ops sigs slot)) → HoldsAt (state_at record_length ops sigs to) m
  edge_held slot to m less h =
      all_hold (entering record_length to
      ++ arriving record_length ops sigs to 0 (states record_length ops sigs to)) m
      (some_append_right (entering record_length to)
      (arriving record_length ops sigs to 0 (states record_length ops sigs to)) m
      (arriving_holds (states record_length ops sigs to) slot 0 to
      (state_at record_length ops sigs slot) m (states_at to slot less) (rw zero-add h)))
