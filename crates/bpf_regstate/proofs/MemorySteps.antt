-- Loads and stores without a fault lead along their edges.
use Rattle.std.proofs.Common.{◌≡◌, ℕ, zero, suc, ◌+◌, ◌-◌, ◌<◌, ◌≤◌, ◌^◌, Bool, true, false}
use Rattle.std.proofs.Common.{cond, List, [], ◌∷◌, ◌++◌, length, take, drop, replicate, map, Option}
use Rattle.std.proofs.Common.{Some, None, IsSome, IfSome, refl, sym, ap, ◌∙◌, arith, ◌⊎◌, inl}
use Rattle.std.proofs.Common.{get_or, ⊎_elim}
use Rattle.std.specs.Prelude.{slice_get, ℤ, pos, ◌+ℤ◌}
use Rattle.std.specs.Int as int
use Rattle.std.specs.Int.{byte_len, from_le_bytes, to_le_bytes, w64}
use Rattle.std.proofs.lemmas.Bool.{eqb-true}
use Rattle.std.proofs.lemmas.List.{length-map}
use Rattle.std.proofs.lemmas.List.{length-replicate}
use Rattle.bpf_decode.specs.declared.op.Op.{Op}
use Rattle.bpf_decode.specs.declared.op.Op.TheVariants.{Load, LoadSigned, Store}
use Rattle.bpf_decode.specs.declared.op.Operand.{Operand}
use Rattle.bpf_decode.specs.declared.op.Part.{Part}
use Rattle.bpf_decode.specs.declared.op.Size.{Size}
use Rattle.bpf_decode.specs.declared.op.Size.TheVariants.{Byte, Half, Word, Double}
use Rattle.bpf_decode.specs.declared.op.Width.TheVariants.{W64}
use Rattle.bpf_decode.specs.Words.{extended, part_type}
use Rattle.bpf_helpers.specs.declared.range.Range.{Range}
use Rattle.bpf_helpers.specs.Promise.{Promise}
use Rattle.bpf_semantics.specs.Machine.{Machine, Place, InRecord, InStack, Nowhere, register}
use Rattle.bpf_semantics.specs.Machine.{act_on, is_entry, bytes_at, loaded, place_of, size_type}
use Rattle.bpf_semantics.specs.Machine.{stored}
use Rattle.bpf_regstate.specs.Shape.{Shape, IsShape, known}
use Rattle.bpf_regstate.specs.Ranges.{full, is_single}
use Rattle.bpf_regstate.specs.Holds.{In, Holds, IsMachine, IsOperand, AreBytes}
use Rattle.bpf_regstate.specs.Effect.{range_of, access, load_range, marked, operand_reg}
use Rattle.bpf_regstate.specs.Effect.{store_marks}
use Rattle.bpf_regstate.specs.Edges.{edges}
use Rattle.bpf_regstate.specs.Faults.{is_in_record, is_nowhere, is_uninit, is_unmarked, all_marked}
use Rattle.bpf_regstate.specs.Faults.{operand_uninit}
use Rattle.bpf_regstate.proofs.ResultsInRange.{full_in}
use Rattle.bpf_regstate.proofs.ResultsOfOne.{extended_below}
use Rattle.bpf_regstate.proofs.RefinedHolds.{reg_held}
use Rattle.bpf_regstate.proofs.AccessHolds.{IsSomewhere, further_on, access_moves, access_marked}
use Rattle.bpf_regstate.proofs.AccessHolds.{inside_stack, marked_present, bytes_dropped}
use Rattle.bpf_regstate.proofs.AccessHolds.{bytes_taken}
use Rattle.bpf_regstate.proofs.NoFault.{IsClear, not_false, or_false}
use Rattle.bpf_regstate.proofs.Parts.{outside, inside, length-replaced, where_is}
use Rattle.bpf_regstate.proofs.WordsHold.{load_in, store_holds}
use Rattle.bpf_regstate.proofs.Steps.{LeadsTo, LeadsWell, operand_held, sets_well}

-- ---- places

somewhere : (p : Place) → is_nowhere (Some p) ≡ false → IsSomewhere p
somewhere (InRecord at) e = tt
somewhere (InStack at) e = tt
somewhere Nowhere e = absurd cc

-- the number that bytes are, where they are there
abbrev number : int.Width → Option (List ℕ) → Option ℕ
number w None = None
number w (Some bytes) = Some (from_le_bytes w bytes)

-- ---- loads

module _ (record_bytes : List ℕ) (short : length record_bytes < 2 ^ 32)
    (bytes : AreBytes record_bytes) (m : Machine) (s : Shape) (i : IsShape s) (k : IsMachine m)
    (h : Holds s m) where
  -- the bytes are there
  bytes_there : (r : Range) (n : ℕ) (e : ℕ) (p : Place) → IsSomewhere p → e ≤ r.hi - r.lo
      → is_unmarked s r n p ≡ false
      → (bs : List ℕ) × (bytes_at record_bytes m.stack (further_on p e) n ≡ Some bs) × AreBytes bs
  bytes_there r n e (InRecord at) some le u = (
    take n (drop (at + e) record_bytes),
    refl,
    bytes_taken n (drop (at + e) record_bytes) (bytes_dropped (at + e) record_bytes bytes),
  )
  bytes_there r n e (InStack at) some le u =
      let all = not_false (all_marked s at (r.hi - r.lo + n)) u in
      marked_present n (at + e) s.marks m.stack (omega (arith, i.marks, k.stack))
      (access_marked (r.hi - r.lo) e n at s.marks le all) h.marks k.bytes
  bytes_there r n e Nowhere some le u = elim some [ ]

  -- what is loaded
  pub load_there : (w : int.Width) (r : Range) (a : ℕ) (offset : ℤ) → In r a
      → is_nowhere (Some (access (length record_bytes) r offset (byte_len w))) ≡ false
      → is_unmarked s r (byte_len w) (access (length record_bytes) r offset (byte_len w)) ≡ false
      → (bs : List ℕ) × (loaded record_bytes m w a offset ≡ Some (from_le_bytes w bs)) × AreBytes bs
  load_there w r a offset there some u =
      let p = access (length record_bytes) r offset (byte_len w) in
      let place = access_moves (length record_bytes) r a offset (byte_len w) p short
      (somewhere p some) there refl in
      let bs = bytes_there r (byte_len w) (a - r.lo) p (somewhere p some)
      (omega (arith, there.low, there.high)) u in (
        bs.0,
        ap (λ (q : Place). number w (bytes_at record_bytes m.stack q (byte_len w))) place
            ∙ ap (number w) bs.1,
        bs.2,
      )

  module _ (ops : List Op) (sigs : List (ℕ × Promise)) where
    pub load_steps : (size : Size) (dst base : ℕ) (offset : ℤ)
        → IsClear (length record_bytes) ops sigs m.slot s (Load size dst base offset)
        → LeadsWell ops sigs (edges (length record_bytes) sigs m.slot (Load size dst base offset) s)
        m (act_on ops sigs record_bytes m (Load size dst base offset))
    load_steps size dst base offset c =
        let a = reg_held (known s base) (register m base) (i.ranges base) c.reads (h.registers base)
        in
        let v = load_there (size_type size) (range_of (known s base)) a.0 offset a.2 c.place
        c.marked in
        rw (a.1, v.1) (sets_well ops sigs m s i k h (m.slot + 1) dst
        (from_le_bytes (size_type size) v.0)
        (load_range (length record_bytes) s.words (range_of (known s base)) offset
        (byte_len (size_type size)))
        (load_in m s i k h record_bytes short (range_of (known s base)) a.0 offset a.2 v.0 v.2 size
        v.1) c.end
        (not_false (is_entry (slice_get ops (m.slot + 1))) c.next) (omega arith))

    pub load_signed_steps : (part : Part) (dst base : ℕ) (offset : ℤ)
        → IsClear (length record_bytes) ops sigs m.slot s (LoadSigned part dst base offset)
        → LeadsWell ops sigs (edges (length record_bytes) sigs m.slot
        (LoadSigned part dst base offset) s) m
        (act_on ops sigs record_bytes m (LoadSigned part dst base offset))
    load_signed_steps part dst base offset c =
        let a = reg_held (known s base) (register m base) (i.ranges base) c.reads (h.registers base)
        in
        let v = load_there (part_type part) (range_of (known s base)) a.0 offset a.2 c.place
        c.marked in
        rw (a.1, v.1) (sets_well ops sigs m s i k h (m.slot + 1) dst
        (extended W64 part (from_le_bytes (part_type part) v.0)) (full W64)
        (full_in W64 (extended W64 part (from_le_bytes (part_type part) v.0))
        (extended_below W64 part (from_le_bytes (part_type part) v.0)))
        c.end (not_false (is_entry (slice_get ops (m.slot + 1))) c.next) (omega arith))

-- ---- stores

some_there : (bs : List ℕ) (j : ℕ) → j < length bs → IsSome (get_or (map (λ b. Some b) bs) j None)
some_there [] j lt = absurd (omega arith)
some_there (b ∷ bs) zero lt = refl
some_there (b ∷ bs) (suc j) lt = some_there bs j (omega arith)

some_byte : (bs : List ℕ) (j : ℕ) → AreBytes bs
    → IfSome (get_or (map (λ b. Some b) bs) j None) (λ b. b < 256)
some_byte [] j a = tt
some_byte (b ∷ bs) zero a = a 0
some_byte (b ∷ bs) (suc j) a = some_byte bs j (λ l. a (suc l))

le_bytes : (v : ℕ) → AreBytes (to_le_bytes w64 v)
le_bytes v zero = omega arith
le_bytes v (suc zero) = omega arith
le_bytes v (suc (suc zero)) = omega arith
le_bytes v (suc (suc (suc zero))) = omega arith
le_bytes v (suc (suc (suc (suc zero)))) = omega arith
le_bytes v (suc (suc (suc (suc (suc zero))))) = omega arith
le_bytes v (suc (suc (suc (suc (suc (suc zero)))))) = omega arith
le_bytes v (suc (suc (suc (suc (suc (suc (suc zero))))))) = omega arith
le_bytes v (suc (suc (suc (suc (suc (suc (suc (suc j)))))))) = omega arith

length-stored : (size : Size) (v : ℕ)
    → length (take (byte_len (size_type size)) (to_le_bytes w64 v)) ≡ byte_len (size_type size)
length-stored Byte v = refl
length-stored Half v = refl
length-stored Word v = refl
length-stored Double v = refl

module _ (m : Machine) (s : Shape) (i : IsShape s) (k : IsMachine m) (h : Holds s m) where
  -- the stack after bytes were stored from a place on
  abbrev after_store : ℕ → List ℕ → List (Option ℕ)
  after_store at bs = take at m.stack ++ (map (λ b. Some b) bs ++ drop (at + length bs) m.stack)

  -- where bytes were stored, and where none were
  store_keeps : (at : ℕ) (bs : List ℕ) (j : ℕ) → at + length bs ≤ 512
      → IsSome (get_or m.stack j None) → IsSome (get_or (after_store at bs) j None)
  store_keeps at bs j fits old = ⊎_elim
      (λ (out : (j < at) ⊎ (at + length bs ≤ j)).
      rw (outside m.stack (map (λ b. Some b) bs) at (length bs) j None
      (length-map bs (λ b. Some b)) (omega (arith, k.stack)) out) old)
      (λ (part : (at ≤ j) × (j < at + length bs)).
      rw (inside m.stack (map (λ b. Some b) bs) at (length bs) j None (length-map bs (λ b. Some b))
      (omega (arith, k.stack)) part.0 part.1)
      (some_there bs (j - at) (omega (arith, part.0, part.1))))
      (where_is at (length bs) j)

  store_bytes : (at : ℕ) (bs : List ℕ) → at + length bs ≤ 512 → AreBytes bs → (j : ℕ)
      → IfSome (get_or (after_store at bs) j None) (λ b. b < 256)
  store_bytes at bs fits a j = ⊎_elim
      (λ (out : (j < at) ⊎ (at + length bs ≤ j)).
      rw (outside m.stack (map (λ b. Some b) bs) at (length bs) j None
      (length-map bs (λ b. Some b)) (omega (arith, k.stack)) out) (k.bytes j))
      (λ (part : (at ≤ j) × (j < at + length bs)).
      rw (inside m.stack (map (λ b. Some b) bs) at (length bs) j None (length-map bs (λ b. Some b))
      (omega (arith, k.stack)) part.0 part.1) (some_byte bs (j - at) a))
      (where_is at (length bs) j)

  -- what is marked by it is there
  marks_there : (at : ℕ) (bs : List ℕ) (j : ℕ) → at + length bs ≤ 512
      → get_or (take at s.marks ++ (replicate (length bs) true ++ drop (at + length bs) s.marks)) j
      false ≡ true → IsSome (get_or (after_store at bs) j None)
  marks_there at bs j fits e = ⊎_elim
      (λ (out : (j < at) ⊎ (at + length bs ≤ j)).
      let same = outside s.marks (replicate (length bs) true) at (length bs) j false
      (length-replicate (length bs) true) (omega (arith, i.marks)) out in
      store_keeps at bs j fits (h.marks j (sym same ∙ e)))
      (λ (part : (at ≤ j) × (j < at + length bs)).
      rw (inside m.stack (map (λ b. Some b) bs) at (length bs) j None (length-map bs (λ b. Some b))
      (omega (arith, k.stack)) part.0 part.1)
      (some_there bs (j - at) (omega (arith, part.0, part.1))))
      (where_is at (length bs) j)

  -- the marks after a store to one of these places
  store_marks_there : (record_length : ℕ) (r : Range) (a : ℕ) (offset : ℤ) (n at : ℕ) (bs : List ℕ)
      → length bs ≡ n → In r a → at + (a - r.lo) + n ≤ 512
      → access record_length r offset n ≡ InStack at
      → (j : ℕ) → get_or (store_marks record_length s.marks r offset n) j false ≡ true
      → IsSome (get_or (after_store (at + (a - r.lo)) bs) j None)
  store_marks_there record_length r a offset n at bs len there fits is j =
      by_test (is_single r) refl
    where
      by_test : (t : Bool) → is_single r ≡ t
          → get_or (cond t (marked s.marks (access record_length r offset n) n) s.marks) j false
          ≡ true
          → IsSome (get_or (after_store (at + (a - r.lo)) bs) j None)
      by_test true e f =
          let one = eqb-true _ _ e in
          let same : at + (a - r.lo) ≡ at = omega (arith, there.low, there.high, one) in
          let marks : get_or (marked s.marks (InStack at) n) j false ≡ true = rw is at f in
          rw same (marks_there at bs j (omega (arith, len, fits, same)) (rw len marks))
      by_test false e f = store_keeps (at + (a - r.lo)) bs j (omega (arith, len, fits))
          (h.marks j f)

  module _ (ops : List Op) (sigs : List (ℕ × Promise)) (record_bytes : List ℕ)
      (short : length record_bytes < 2 ^ 32) where
    in_stack_place : (p : Place) → is_nowhere (Some p) ≡ false → is_in_record p ≡ false
        → (at : ℕ) × (p ≡ InStack at)
    in_stack_place (InRecord at) e f = absurd cc
    in_stack_place (InStack at) e f = (at, refl)
    in_stack_place Nowhere e f = absurd cc

    pub store_steps : (size : Size) (base : ℕ) (offset : ℤ) (from : Operand) → IsOperand from
        → IsClear (length record_bytes) ops sigs m.slot s (Store size base offset from)
        → LeadsWell ops sigs (edges (length record_bytes) sigs m.slot (Store size base offset from)
        s) m (act_on ops sigs record_bytes m (Store size base offset from))
    store_steps size base offset from f c =
        let reads = or_false (is_uninit (known s base)) (operand_uninit s from) c.reads in
        let a = reg_held (known s base) (register m base) (i.ranges base) reads.0 (h.registers base)
        in
        let v = operand_held ops sigs m s i k h from f reads.1 in
        let n = byte_len (size_type size) in
        let r = range_of (known s base) in
        let bs = take n (to_le_bytes w64 v.0) in
        let len : length bs ≡ n = length-stored size v.0 in
        let at = in_stack_place (access (length record_bytes) r offset n) c.place c.store in
        let place : place_of (length record_bytes) (pos a.0 +ℤ offset) n
        ≡ InStack (at.0 + (a.0 - r.lo)) =
        access_moves (length record_bytes) r a.0 offset n (InStack at.0) short tt a.2 at.1 in
        let fits : at.0 + (a.0 - r.lo) + n ≤ 512 =
        inside_stack (length record_bytes) (pos a.0 +ℤ offset) n (at.0 + (a.0 - r.lo)) place in
        let room : at.0 + (a.0 - r.lo) + length bs ≤ 512 = omega (arith, len, fits) in
        let written : stored m.stack (place_of (length record_bytes) (pos a.0 +ℤ offset) n) bs
        ≡ Some (after_store (at.0 + (a.0 - r.lo)) bs) =
        ap (λ (p : Place). stored m.stack p bs) place in
        let next = not_false (is_entry (slice_get ops (m.slot + 1))) c.next in
        let goes : LeadsTo ops m.slot (edges (length record_bytes) sigs m.slot
        (Store size base offset from) s)
        (record {
          slot = m.slot + 1;
          registers = m.registers;
          stack = after_store (at.0 + (a.0 - r.lo)) bs;
        }) = record {
          later = omega arith;
          entry = next;
          machine = record {
            registers = k.registers;
            stack = length-replaced m.stack (map (λ b. Some b) bs) (at.0 + (a.0 - r.lo)) (length bs)
                (length-map bs (λ b. Some b)) (omega (arith, k.stack, room)) ∙ k.stack;
            bytes = store_bytes (at.0 + (a.0 - r.lo)) bs room
                (bytes_taken n (to_le_bytes w64 v.0) (le_bytes v.0));
          };
          held = inl (
            refl,
            record {
              registers = h.registers;
              marks = store_marks_there (length record_bytes) r a.0 offset n at.0 bs len a.2 fits
                  at.1;
              words = store_holds m s i k h (length record_bytes) size r offset a.0 at.0 v.0
                  (range_of (operand_reg s from)) a.2 at.1 (omega (arith, v.2.high, v.3.words)) v.2;
            },
          );
        } in
        rw (a.1, v.1, written, next) goes
