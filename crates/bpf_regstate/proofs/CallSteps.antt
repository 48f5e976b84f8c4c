-- A call without a fault asks, some answer is promised, and each promised answer leads along its
-- edge.
use Rattle.std.proofs.Common.{◌≡◌, ℕ, zero, suc, ◌+◌, ◌-◌, true, false, not, ◌&&◌, eqb, leb, List}
use Rattle.std.proofs.Common.{[], ◌∷◌, ◌++◌, length, drop, replicate, Option, Some, None, IsTrue}
use Rattle.std.proofs.Common.{refl, sym, ap, subst, ◌∙◌, arith, inl, get_or, if◌then◌else◌}
use Rattle.std.specs.Prelude.{slice_get}
use Rattle.std.specs.List.{list_all}
use Rattle.std.proofs.lemmas.Bool.{leb-true, le-leb}
use Rattle.std.proofs.lemmas.List.{get_or-drop, length-drop}
use Rattle.std.proofs.Math.Seq.{drop-append_seam}
use Rattle.bpf_decode.specs.declared.op.Op.{Op}
use Rattle.bpf_decode.specs.declared.op.Op.TheVariants.{Call}
use Rattle.bpf_helpers.specs.declared.range.Range.{Range}
use Rattle.bpf_helpers.specs.Promise.{Promise, are_in, are_well_formed, is_answer, is_call, is_in}
use Rattle.bpf_helpers.specs.Promise.{is_promised, is_question, signature_of}
use Rattle.bpf_helpers.proofs.SomeAnswer.{some_answer}
use Rattle.bpf_semantics.specs.Machine.{Machine, Action, Asks, Stuck, ◌>>=◌, act_on, answered}
use Rattle.bpf_semantics.specs.Machine.{arguments, calls, is_entry, padded, register}
use Rattle.bpf_regstate.specs.declared.reg.Reg.{Reg}
use Rattle.bpf_regstate.specs.declared.reg.Reg.TheVariants.{Uninit, Known}
use Rattle.bpf_regstate.specs.Shape.{Shape, IsShape, known}
use Rattle.bpf_regstate.specs.Holds.{In, HoldsWord, Holds, IsMachine}
use Rattle.bpf_regstate.specs.Effect.{after_op, answer_reg, range_of}
use Rattle.bpf_regstate.specs.Edges.{edges}
use Rattle.bpf_regstate.specs.Faults.{argument_uninit, arguments_within, is_missing, is_uninit}
use Rattle.bpf_regstate.specs.Faults.{lies_within}
use Rattle.bpf_regstate.proofs.ResultsInRange.{both}
use Rattle.bpf_regstate.proofs.RefinedHolds.{reg_held}
use Rattle.bpf_regstate.proofs.NoFault.{IsClear, not_false, or_false}
use Rattle.bpf_regstate.proofs.Steps.{LeadsTo, LeadsWell}

-- ---- arguments

-- one more argument, where it is there
abbrev with_first : Option ℕ → Option (List ℕ) → Option (List ℕ)
with_first o rest = elim o [
  | None ↦ None
  | Some x ↦
      elim rest [ None ↦ None | Some xs ↦ Some (x ∷ xs) ]
]

arguments_more : (m : Machine) (n first x : ℕ) (xs : List ℕ) → register m first ≡ Some x
    → arguments m n (first + 1) ≡ Some xs
    → arguments m (suc n) first ≡ Some (x ∷ xs)
arguments_more m n first x xs e f =
    ap (λ (o : Option ℕ). with_first o (arguments m n (first + 1))) e ∙ ap (with_first (Some x)) f

word_within : (inner outer : Range) (x : ℕ) → lies_within inner outer ≡ true → In inner x
    → is_in outer x ≡ true
word_within inner outer x e i =
    let parts = both (leb outer.lo inner.lo) (leb inner.hi outer.hi) e in
    let low = leb-true _ _ parts.0 in
    let high = leb-true _ _ parts.1 in
    rw (
      le-leb outer.lo x (omega (arith, i.low, low)),
      le-leb x outer.hi (omega (arith, i.high, high)),
    ) refl

-- the words that a call passes, each in the range of its argument
record Passes (m : Machine) (rs : List Range) (first : ℕ) : Type 0 where
  words : List ℕ
  are : arguments m (length rs) first ≡ Some words
  inside : are_in rs words ≡ true
  count : length words ≡ length rs

passes : (m : Machine) (s : Shape) → IsShape s → Holds s m → (rs : List Range) (first : ℕ)
    → argument_uninit s rs first ≡ false → arguments_within s rs first ≡ true
    → Passes m rs first
passes m s i h [] first e f = record { words = []; are = refl; inside = refl; count = refl }
passes m s i h (r ∷ rs) first e f =
    let there = or_false (is_uninit (known s first)) (argument_uninit s rs (first + 1)) e in
    let range = both (lies_within (range_of (known s first)) r) (arguments_within s rs (first + 1))
    f in
    let x = reg_held (known s first) (register m first) (i.ranges first) there.0 (h.registers first)
    in
    let rest = passes m s i h rs (first + 1) there.1 range.1 in
    record {
      words = x.0 ∷ rest.words;
      are = arguments_more m (length rs) first x.0 rest.words x.1 rest.are;
      inside = rw (word_within (range_of (known s first)) r x.0 range.0 x.2, rest.inside) refl;
      count = omega (arith, rest.count);
    }

are_in_more : (rs : List Range) (xs zeros : List ℕ) → are_in rs xs ≡ true
    → are_in rs (xs ++ zeros) ≡ true
are_in_more [] xs zeros e = refl
are_in_more (r ∷ rs) [] zeros e = absurd cc
are_in_more (r ∷ rs) (x ∷ xs) zeros e =
    let parts = both (is_in r x) (are_in rs xs) e in
    rw (parts.0, are_in_more rs xs zeros parts.1) refl

all_zero : (n : ℕ) → list_all (λ x. eqb x 0) (replicate n 0) ≡ true
all_zero zero = refl
all_zero (suc n) = all_zero n

may_call : (sig : Promise) (xs : List ℕ) → are_in sig.args xs ≡ true → length xs ≡ length sig.args
    → is_call sig (padded xs) ≡ true
may_call sig xs inside count =
    let behind : drop (length sig.args) (padded xs) ≡ replicate (5 - length xs) 0 =
    subst (λ (n : ℕ). drop n (padded xs) ≡ replicate (5 - length xs) 0) count
    (drop-append_seam xs (replicate (5 - length xs) 0)) in
    rw (
      are_in_more sig.args xs (replicate (5 - length xs) 0) inside,
      behind,
      all_zero (5 - length xs),
    ) refl

-- ---- the answer

promised_in : (sig : Promise) (xs : List ℕ) (answer : ℕ) → is_promised sig xs answer ≡ true
    → In sig.answer answer
promised_in sig xs answer e =
    let first = both _ _ e in
    let second = both (are_in sig.args xs) (is_in sig.answer answer) first.0 in
    let parts = both (leb sig.answer.lo answer) (leb answer sig.answer.hi) second.1 in
    record { low = leb-true _ _ parts.0; high = leb-true _ _ parts.1 }

answer_held : (s : Shape) (m : Machine) (sig : Promise) (answer r : ℕ) → Holds s m
    → In sig.answer answer
    → HoldsWord (get_or (Known sig.answer ∷ Uninit ∷ Uninit ∷ Uninit ∷ Uninit ∷ Uninit
    ∷ drop 6 s.registers) r Uninit)
    (get_or (Some answer ∷ None ∷ None ∷ None ∷ None ∷ None ∷ drop 6 m.registers) r None)
answer_held s m sig answer zero h i = i
answer_held s m sig answer (suc zero) h i = tt
answer_held s m sig answer (suc (suc zero)) h i = tt
answer_held s m sig answer (suc (suc (suc zero))) h i = tt
answer_held s m sig answer (suc (suc (suc (suc zero)))) h i = tt
answer_held s m sig answer (suc (suc (suc (suc (suc zero))))) h i = tt
answer_held s m sig answer (suc (suc (suc (suc (suc (suc r)))))) h i =
    rw (get_or-drop 6 s.registers r Uninit, get_or-drop 6 m.registers r None) (h.registers (6 + r))

found : (o : Option Promise) → is_missing o ≡ false → (sig : Promise) × (o ≡ Some sig)
found None e = absurd cc
found (Some sig) e = (sig, refl)

module _ (ops : List Op) (sigs : List (ℕ × Promise)) (record_bytes : List ℕ) (m : Machine)
    (s : Shape) (i : IsShape s) (k : IsMachine m) (h : Holds s m)
    (well : IsTrue (are_well_formed sigs)) where
  -- on from a call
  answers_well : (helper : ℕ) (sig : Promise) (passed : List ℕ) (answer : ℕ)
      → signature_of sigs helper ≡ Some sig → is_promised sig passed answer ≡ true
      → is_entry (slice_get ops (m.slot + 1)) ≡ true
      → LeadsTo ops m.slot (edges (length record_bytes) sigs m.slot (Call helper) s)
      (answered m answer)
  answers_well helper sig passed answer is e next =
      let known_answer : answer_reg (signature_of sigs helper) ≡ Known sig.answer = rw is refl in
      let held : Holds (after_op (length record_bytes) sigs (Call helper) s) (answered m answer) =
      record {
        registers =
            λ r. subst (λ (x : Reg). HoldsWord
            (get_or (x ∷ Uninit ∷ Uninit ∷ Uninit ∷ Uninit ∷ Uninit ∷ drop 6 s.registers) r Uninit)
            (get_or (Some answer ∷ None ∷ None ∷ None ∷ None ∷ None ∷ drop 6 m.registers) r None))
            (sym known_answer) (answer_held s m sig answer r h
            (promised_in sig passed answer e));
        marks = h.marks;
        words = h.words;
      } in
      record {
        later = omega arith;
        entry = next;
        machine = record {
          registers = omega (arith, length-drop 6 m.registers, k.registers);
          stack = k.stack;
          bytes = k.bytes;
        };
        held = inl (refl, held);
      }

  call_with : (helper : ℕ) (sig : Promise) → signature_of sigs helper ≡ Some sig
      → argument_uninit s sig.args 1 ≡ false → arguments_within s sig.args 1 ≡ true
      → is_entry (slice_get ops (m.slot + 1)) ≡ true
      → LeadsWell ops sigs (edges (length record_bytes) sigs m.slot (Call helper) s) m
      (act_on ops sigs record_bytes m (Call helper))
  call_with helper sig is uninit within next =
      let p = passes m s i h sig.args 1 uninit within in
      let may = may_call sig p.words p.inside p.count in
      let asked : IsTrue (is_question sigs helper (padded p.words)) = rw is may in
      let some = some_answer sigs helper (padded p.words) well asked in
      let each : (answer : ℕ) → IsTrue (is_answer sigs helper (padded p.words) answer)
      → LeadsTo ops m.slot (edges (length record_bytes) sigs m.slot (Call helper) s)
      (answered m answer) =
      λ answer e. answers_well helper sig (padded p.words) answer is (rw is at e) next in
      asks helper sig p.words is p.are may next (some, each)
    where
      asks : (helper : ℕ) (sig : Promise) (words : List ℕ) → signature_of sigs helper ≡ Some sig
          → arguments m (length sig.args) 1 ≡ Some words → is_call sig (padded words) ≡ true
          → is_entry (slice_get ops (m.slot + 1)) ≡ true
          → LeadsWell ops sigs (edges (length record_bytes) sigs m.slot (Call helper) s) m
          (Asks helper (padded words))
          → LeadsWell ops sigs (edges (length record_bytes) sigs m.slot (Call helper) s) m
          (act_on ops sigs record_bytes m (Call helper))
      asks helper sig words is are may next leads =
          let acts : act_on ops sigs record_bytes m (Call helper) ≡ Asks helper (padded words) =
          ap (λ (o : Option Promise). o >>= λ x. calls ops m helper x) is
          ∙ ap (λ (o : Option (List ℕ)). o >>= λ xs. if is_call sig (padded xs)
          && is_entry (slice_get ops (m.slot + 1)) then Asks helper (padded xs) else Stuck) are
          ∙ rw (may, next) refl in
          subst (λ (a : Action). LeadsWell ops sigs
          (edges (length record_bytes) sigs m.slot (Call helper) s) m a) (sym acts) leads

  pub call_steps : (helper : ℕ) → IsClear (length record_bytes) ops sigs m.slot s (Call helper)
      → LeadsWell ops sigs (edges (length record_bytes) sigs m.slot (Call helper) s) m
      (act_on ops sigs record_bytes m (Call helper))
  call_steps helper c =
      let sig = found (signature_of sigs helper) c.helper in
      let uninit : argument_uninit s sig.0.args 1 ≡ false = rw sig.1 at c.reads in
      let bad : not (arguments_within s sig.0.args 1) ≡ false = rw sig.1 at c.arguments in
      call_with helper sig.0 sig.1 uninit (not_false (arguments_within s sig.0.args 1) bad)
      (not_false (is_entry (slice_get ops (m.slot + 1))) c.next)
