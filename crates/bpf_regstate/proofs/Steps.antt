-- From a machine that a state holds, an instruction without a fault leads along one of its edges.
use Rattle.std.proofs.Common.{◌≡◌, ℕ, zero, suc, ◌+◌, ◌<◌, ◌^◌, Bool, true, false, eqb, List, []}
use Rattle.std.proofs.Common.{◌∷◌, ◌++◌, length, Option, Some, None, IsTrue, refl, sym, subst}
use Rattle.std.proofs.Common.{arith, inl, inr, get_or, set, if◌then◌else◌}
use Rattle.std.specs.Prelude.{slice_get, ℤ, pos, negsuc}
use Rattle.std.specs.Int.{cast_unsigned, w64}
use Rattle.std.proofs.lemmas.Int.{ints}
use Rattle.std.proofs.lemmas.List.{length-set}
use Rattle.bpf_decode.specs.declared.op.Op.{Op}
use Rattle.bpf_decode.specs.declared.op.Op.TheVariants.{Arith, Negate, Extend, End, Jump, Exit}
use Rattle.bpf_decode.specs.declared.op.Op.TheVariants.{Wide}
use Rattle.bpf_decode.specs.declared.op.Operand.{Operand}
use Rattle.bpf_decode.specs.declared.op.Operand.TheVariants.{From, Immediate}
use Rattle.bpf_decode.specs.declared.op.Width.{Width}
use Rattle.bpf_decode.specs.declared.op.Width.TheVariants.{W64}
use Rattle.bpf_decode.specs.declared.op.Condition.{Condition}
use Rattle.bpf_decode.specs.declared.op.Code.{Code}
use Rattle.bpf_decode.specs.declared.op.Code.TheVariants.{Mov}
use Rattle.bpf_decode.specs.declared.op.Part.{Part}
use Rattle.bpf_decode.specs.declared.op.ByteOrder.{ByteOrder}
use Rattle.bpf_decode.specs.declared.op.Bytes.{Bytes}
use Rattle.bpf_decode.specs.Words.{arith_word, negated, extended, ordered, holds}
use Rattle.bpf_helpers.specs.declared.range.Range.{Range}
use Rattle.bpf_helpers.specs.Promise.{Promise, is_answer}
use Rattle.bpf_semantics.specs.Machine as machine
use Rattle.bpf_semantics.specs.Machine.{Machine, Action, Goes, Asks, Ends, Stuck, register, operand}
use Rattle.bpf_semantics.specs.Machine.{sets, enters, jumps, act_on, answered, is_entry, target}
use Rattle.bpf_regstate.specs.declared.reg.Reg.{Reg}
use Rattle.bpf_regstate.specs.declared.reg.Reg.TheVariants.{Uninit, Known}
use Rattle.bpf_regstate.specs.Shape.{Shape, IsRange, IsReg, IsShape, known}
use Rattle.bpf_regstate.specs.Ranges.{span}
use Rattle.bpf_regstate.specs.Holds.{In, HoldsWord, Holds, HoldsAt, EdgeHolds, IsMachine, IsOperand}
use Rattle.bpf_regstate.specs.Effect.{range_of, operand_reg, with_register, arith_result}
use Rattle.bpf_regstate.specs.Effect.{negate_range, extend_range, order_result}
use Rattle.bpf_regstate.specs.Narrowing.{refined}
use Rattle.bpf_regstate.specs.Edges.{edge, edges}
use Rattle.bpf_regstate.specs.Faults.{destination_uninit, is_target, is_uninit, operand_uninit}
use Rattle.bpf_regstate.proofs.ResultsInRange.{arith_in}
use Rattle.bpf_regstate.proofs.ResultsOfOne.{negate_in, extend_in, order_result_in}
use Rattle.bpf_regstate.proofs.Ordered.{full_words}
use Rattle.bpf_regstate.proofs.RefinedHolds.{reg_held, refined_holds}
use Rattle.bpf_regstate.proofs.NoFault.{IsClear, not_false, or_false}

-- the next machine is at a later slot, where an instruction begins, and one of these edges holds it
pub record LeadsTo (ops : List Op) (slot : ℕ) (es : List (ℕ × Shape)) (next : Machine) : Type 0
  where
    pub later : slot < next.slot
    pub entry : is_entry (slice_get ops next.slot) ≡ true
    pub machine : IsMachine next
    pub held : EdgeHolds next next.slot es

-- where a machine is asked, some answer is promised, and each leads on
abbrev pub LeadsWell : List Op → List (ℕ × Promise) → List (ℕ × Shape) → Machine → Action → Type 0
LeadsWell ops sigs es m (Goes next) = LeadsTo ops m.slot es next
LeadsWell ops sigs es m (Asks helper passed) =
    ((answer : ℕ) × IsTrue (is_answer sigs helper passed answer))
    × ((answer : ℕ) → IsTrue (is_answer sigs helper passed answer)
    → LeadsTo ops m.slot es (answered m answer))
LeadsWell ops sigs es m (Ends r) = Unit {0}
LeadsWell ops sigs es m Stuck = ⊥

-- ---- registers and edges

set_held : (xs : List Reg) (os : List (Option ℕ)) (d r : ℕ) (x : Reg) (o : Option ℕ)
    → length xs ≡ length os → HoldsWord x o
    → HoldsWord (get_or xs r Uninit) (get_or os r None)
    → HoldsWord (get_or (set xs d x) r Uninit) (get_or (set os d o) r None)
set_held [] [] d r x o e new old = old
set_held [] (p ∷ os) d r x o e new old = tt
set_held (y ∷ xs) [] d r x o e new old = absurd (omega arith)
set_held (y ∷ xs) (p ∷ os) zero zero x o e new old = new
set_held (y ∷ xs) (p ∷ os) zero (suc r) x o e new old = old
set_held (y ∷ xs) (p ∷ os) (suc d) zero x o e new old = old
set_held (y ∷ xs) (p ∷ os) (suc d) (suc r) x o e new old =
    set_held xs os d r x o (omega arith) new old

pub range_is : (x : Reg) → IsReg x → IsRange (range_of x)
range_is Uninit i = record { ordered = omega arith; words = full_words W64 }
range_is (Known r) i = i

-- the same machine at another slot
abbrev pub moved : Machine → ℕ → Machine
moved m to = record { slot = to; registers = m.registers; stack = m.stack }

moved_held : (s : Shape) (m : Machine) (to : ℕ) → Holds s m → Holds s (moved m to)
moved_held s m to h = record { registers = h.registers; marks = h.marks; words = h.words }

moved_held_at : (o : Option Shape) (m : Machine) (to : ℕ) → HoldsAt o m → HoldsAt o (moved m to)
moved_held_at None m to h = h
moved_held_at (Some s) m to h = moved_held s m to h

moved_machine : (m : Machine) (to : ℕ) → IsMachine m → IsMachine (moved m to)
moved_machine m to k = record { registers = k.registers; stack = k.stack; bytes = k.bytes }

first_edge : (m : Machine) (to : ℕ) (o : Option Shape) (rest : List (ℕ × Shape)) → HoldsAt o m
    → EdgeHolds m to (edge (Some to) o ++ rest)
first_edge m to None rest h = elim h [ ]
first_edge m to (Some s) rest h = inl (refl, h)

later_edge : (m : Machine) (to : ℕ) (es rest : List (ℕ × Shape)) → EdgeHolds m to rest
    → EdgeHolds m to (es ++ rest)
later_edge m to [] rest h = h
later_edge m to (e ∷ es) rest h = inr (later_edge m to es rest h)

one_edge : (m : Machine) (to : ℕ) (o : Option Shape) → HoldsAt o m
    → EdgeHolds m to (edge (Some to) o)
one_edge m to None h = elim h [ ]
one_edge m to (Some s) h = inl (refl, h)

-- ---- going on

module _ (ops : List Op) (sigs : List (ℕ × Promise)) (m : Machine) (s : Shape) (i : IsShape s)
    (k : IsMachine m) (h : Holds s m) where
  -- on to a slot with one register changed
  pub sets_well : (next dst v : ℕ) (r : Range) → In r v → eqb dst 10 ≡ false
      → is_entry (slice_get ops next) ≡ true → m.slot < next
      → LeadsWell ops sigs ((next, with_register s dst (Known r)) ∷ []) m (sets ops m next dst v)
  sets_well next dst v r there e entry later =
      let after : Machine = record {
        slot = next;
        registers = set m.registers dst (Some v);
        stack = m.stack;
      } in
      let held : Holds (with_register s dst (Known r)) after = record {
        registers = λ n. set_held s.registers m.registers dst n (Known r) (Some v)
            (omega (arith, i.registers, k.registers)) there (h.registers n);
        marks = h.marks;
        words = h.words;
      } in
      let goes : LeadsTo ops m.slot ((next, with_register s dst (Known r)) ∷ []) after = record {
        later = later;
        entry = entry;
        machine =
            record {
              registers = omega (arith, length-set m.registers dst (Some v), k.registers);
              stack = k.stack;
              bytes = k.bytes;
            };
        held = inl (refl, held);
      } in
      rw (e, entry) goes

  -- on to a slot with nothing changed
  pub enters_well : (to : ℕ) (es : List (ℕ × Shape)) → m.slot < to
      → is_entry (slice_get ops to) ≡ true → EdgeHolds (moved m to) to es
      → LeadsWell ops sigs es m (enters ops to m.registers m.stack)
  enters_well to es later entry held =
      let goes : LeadsTo ops m.slot es (moved m to) =
      record { later = later; entry = entry; machine = moved_machine m to k; held = held } in
      rw entry goes

  jumps_well : (offset : ℤ) (es : List (ℕ × Shape)) → is_target ops (target m.slot offset) ≡ true
      → ((to : ℕ) → target m.slot offset ≡ Some to → EdgeHolds (moved m to) to es)
      → LeadsWell ops sigs es m (jumps ops m offset)
  jumps_well (pos n) es e held =
      enters_well (m.slot + 1 + n) es (omega arith) e (held (m.slot + 1 + n) refl)
  jumps_well (negsuc n) es e held = absurd cc

  -- ---- operands

  pub operand_held : (from : Operand) → IsOperand from → operand_uninit s from ≡ false
      → (b : ℕ) × (operand m from ≡ Some b) × In (range_of (operand_reg s from)) b
      × IsRange (range_of (operand_reg s from))
  operand_held (From r) f e =
      let there = reg_held (known s r) (register m r) (i.ranges r) e (h.registers r) in
      (there.0, there.1, there.2, range_is (known s r) (i.ranges r))
  operand_held (Immediate v) f e = (
    cast_unsigned w64 v,
    refl,
    record { low = omega arith; high = omega arith },
    record { ordered = omega arith; words = omega (arith, ints, f) },
  )

  -- what an operation gives lies in its range
  module _ (w : Width) (b : Range) (y : ℕ) (ordered_b : IsRange b) (there : In b y) where
    value : (code : Code) (dst : ℕ) → destination_uninit code s dst ≡ false
        → (v : ℕ) × (machine.arith_result code w (register m dst) y ≡ Some v)
        × In (arith_result code w (range_of (known s dst)) b) v
    value Mov dst e =
        let word : y < 2 ^ 64 = omega (arith, there.high, ordered_b.words) in (
          arith_word Mov w 0 y,
          refl,
          arith_in Mov w b b y y word word ordered_b.words
              ordered_b.words there there,
        )
    value code dst e =
        let x = reg_held (known s dst) (register m dst) (i.ranges dst) e (h.registers dst) in
        let word : y < 2 ^ 64 = omega (arith, there.high, ordered_b.words) in
        let words = (range_is (known s dst) (i.ranges dst)).words in (
          arith_word code w x.0 y,
          subst (λ (t : Option ℕ). machine.arith_result code w t y ≡ Some (arith_word code w x.0 y))
              (sym x.1) refl,
          arith_in code w (range_of (known s dst)) b x.0 y x.3 word words ordered_b.words x.2 there,
        )

  module _ (record_bytes : List ℕ) where
    pub arith_steps : (w : Width) (code : Code) (dst : ℕ) (from : Operand) → IsOperand from
        → IsClear (length record_bytes) ops sigs m.slot s (Arith w code dst from)
        → LeadsWell ops sigs (edges (length record_bytes) sigs m.slot (Arith w code dst from) s) m
        (act_on ops sigs record_bytes m (Arith w code dst from))
    arith_steps w code dst from f c =
        let reads = or_false (destination_uninit code s dst) (operand_uninit s from) c.reads in
        let b = operand_held from f reads.1 in
        let v = value w (range_of (operand_reg s from)) b.0 b.3 b.2 code dst reads.0 in
        rw (b.1, v.1) (sets_well (m.slot + 1) dst v.0
        (arith_result code w (range_of (known s dst)) (range_of (operand_reg s from))) v.2 c.end
        (not_false (is_entry (slice_get ops (m.slot + 1))) c.next) (omega arith))

    pub negate_steps : (w : Width) (dst : ℕ)
        → IsClear (length record_bytes) ops sigs m.slot s (Negate w dst)
        → LeadsWell ops sigs (edges (length record_bytes) sigs m.slot (Negate w dst) s) m
        (act_on ops sigs record_bytes m (Negate w dst))
    negate_steps w dst c =
        let x = reg_held (known s dst) (register m dst) (i.ranges dst) c.reads (h.registers dst) in
        rw x.1 (sets_well (m.slot + 1) dst (negated w x.0) (negate_range w (range_of (known s dst)))
        (negate_in w (range_of (known s dst)) x.0 x.2) c.end
        (not_false (is_entry (slice_get ops (m.slot + 1))) c.next) (omega arith))

    pub extend_steps : (w : Width) (part : Part) (dst src : ℕ)
        → IsClear (length record_bytes) ops sigs m.slot s (Extend w part dst src)
        → LeadsWell ops sigs (edges (length record_bytes) sigs m.slot (Extend w part dst src) s) m
        (act_on ops sigs record_bytes m (Extend w part dst src))
    extend_steps w part dst src c =
        let x = reg_held (known s src) (register m src) (i.ranges src) c.reads (h.registers src) in
        rw x.1 (sets_well (m.slot + 1) dst (extended w part x.0)
        (extend_range w part (range_of (known s src)))
        (extend_in w part (range_of (known s src)) x.0 (range_is (known s src) (i.ranges src))
        x.2) c.end (not_false (is_entry (slice_get ops (m.slot + 1))) c.next) (omega arith))

    pub order_steps : (order : ByteOrder) (n : Bytes) (dst : ℕ)
        → IsClear (length record_bytes) ops sigs m.slot s (End order n dst)
        → LeadsWell ops sigs (edges (length record_bytes) sigs m.slot (End order n dst) s) m
        (act_on ops sigs record_bytes m (End order n dst))
    order_steps order n dst c =
        let x = reg_held (known s dst) (register m dst) (i.ranges dst) c.reads (h.registers dst) in
        rw x.1 (sets_well (m.slot + 1) dst (ordered order n x.0)
        (order_result order n (range_of (known s dst)))
        (order_result_in order n (range_of (known s dst)) x.0 x.2) c.end
        (not_false (is_entry (slice_get ops (m.slot + 1))) c.next) (omega arith))

    pub wide_steps : (dst v : ℕ) → IsClear (length record_bytes) ops sigs m.slot s (Wide dst v)
        → LeadsWell ops sigs (edges (length record_bytes) sigs m.slot (Wide dst v) s) m
        (act_on ops sigs record_bytes m (Wide dst v))
    wide_steps dst v c =
        sets_well (m.slot + 2) dst v (span v v) (record { low = omega arith; high = omega arith })
        c.end (not_false (is_entry (slice_get ops (m.slot + 2))) c.next) (omega arith)

    -- ---- jumps and the exit

    pub always_steps : (offset : ℤ) → is_target ops (target m.slot offset) ≡ true
        → LeadsWell ops sigs (edge (target m.slot offset) (Some s)) m (jumps ops m offset)
    always_steps offset e =
        jumps_well offset (edge (target m.slot offset) (Some s)) e
        (λ to is. rw is (one_edge (moved m to) to (Some s) (moved_held s m to h)))

    pub jump_steps : (w : Width) (condition : Condition) (dst : ℕ) (from : Operand) (offset : ℤ)
        → IsOperand from → IsClear (length record_bytes) ops sigs m.slot s
        (Jump w condition dst from offset)
        → LeadsWell ops sigs (edges (length record_bytes) sigs m.slot
        (Jump w condition dst from offset) s) m
        (act_on ops sigs record_bytes m (Jump w condition dst from offset))
    jump_steps w condition dst from offset f c =
        let reads = or_false (is_uninit (known s dst)) (operand_uninit s from) c.reads in
        let a = reg_held (known s dst) (register m dst) (i.ranges dst) reads.0 (h.registers dst) in
        let b = operand_held from f reads.1 in
        let taken : (t : Bool) → holds condition w a.0 b.0 ≡ t
        → HoldsAt (refined w condition dst from t s) m =
        λ t e. refined_holds w condition dst from t s m a.0 b.0 i f h reads.0 reads.1 a.1 b.1 e in
        rw (a.1, b.1) (by_test w condition dst from offset a.0 b.0 taken
        (not_false (is_target ops (target m.slot offset)) c.target)
        (not_false (is_entry (slice_get ops (m.slot + 1))) c.next) (holds condition w a.0 b.0)
        refl)
      where
        by_test : (w : Width) (condition : Condition) (dst : ℕ) (from : Operand) (offset : ℤ)
            (a b : ℕ)
            → ((t : Bool) → holds condition w a b ≡ t
            → HoldsAt (refined w condition dst from t s) m)
            → is_target ops (target m.slot offset) ≡ true
            → is_entry (slice_get ops (m.slot + 1)) ≡ true → (t : Bool)
            → holds condition w a b ≡ t
            → LeadsWell ops sigs (edge (target m.slot offset) (refined w condition dst from true s)
            ++ edge (Some (m.slot + 1)) (refined w condition dst from false s)) m
            (if t then jumps ops m offset else enters ops (m.slot + 1) m.registers m.stack)
        by_test w condition dst from offset a b held aim next true e =
            jumps_well offset (edge (target m.slot offset) (refined w condition dst from true s)
            ++ edge (Some (m.slot + 1)) (refined w condition dst from false s)) aim
            (λ to is. rw is (first_edge (moved m to) to (refined w condition dst from true s)
            (edge (Some (m.slot + 1)) (refined w condition dst from false s))
            (moved_held_at (refined w condition dst from true s) m to (held true e))))
        by_test w condition dst from offset a b held aim next false e =
            enters_well (m.slot + 1) (edge (target m.slot offset)
            (refined w condition dst from true s)
            ++ edge (Some (m.slot + 1)) (refined w condition dst from false s)) (omega arith)
            next
            (later_edge (moved m (m.slot + 1)) (m.slot + 1)
            (edge (target m.slot offset) (refined w condition dst from true s))
            (edge (Some (m.slot + 1)) (refined w condition dst from false s))
            (one_edge (moved m (m.slot + 1)) (m.slot + 1) (refined w condition dst from false s)
            (moved_held_at (refined w condition dst from false s) m (m.slot + 1)
            (held false e))))

    pub exit_steps : IsClear (length record_bytes) ops sigs m.slot s Exit
        → LeadsWell ops sigs (edges (length record_bytes) sigs m.slot Exit s) m
        (act_on ops sigs record_bytes m Exit)
    exit_steps c = let x = reg_held (known s 0) (register m 0) (i.ranges 0) c.reads (h.registers 0)
        in rw x.1 tt
