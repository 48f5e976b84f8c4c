-- What is known of the words of the stack stays true where bytes are stored, and a load of a word
-- gives what is known of it.
use Rattle.std.proofs.Common.{◌≡◌, ◌≢◌, ℕ, zero, suc, ◌+◌, ◌-◌, ◌*◌, ◌/◌, ◌%◌, ◌<◌, ◌≤◌, ◌^◌, Bool}
use Rattle.std.proofs.Common.{true, false, ◌&&◌, ◌==◌, cond, List, [], ◌∷◌, ◌++◌, length, take}
use Rattle.std.proofs.Common.{drop, map, Option, Some, None, refl, sym, ap, subst, ◌∙◌, arith, ◌⊎◌}
use Rattle.std.proofs.Common.{inl, inr, get_or, ⊎_elim}
use Rattle.std.specs.Prelude.{ℤ, pos, ◌+ℤ◌}
use Rattle.std.specs.Int.{byte_len, from_le_bytes, to_le_bytes, w64}
use Rattle.std.proofs.lemmas.Bool.{cases_lt, eqb-true, eqb-false}
use Rattle.std.proofs.lemmas.List.{ext_get_or, get_or-drop, get_or-take}
use Rattle.std.proofs.lemmas.List.{get_or_past, length-drop, length-map, length-take}
use Rattle.std.proofs.lemmas.List.{length-take-le}
use Rattle.std.proofs.lemmas.Nat.{from_le_bytes-to_le_bytes_8}
use Rattle.std.proofs.Math.Seq.{drop-append_seam}
use Rattle.bpf_decode.specs.declared.op.Size.{Size}
use Rattle.bpf_decode.specs.declared.op.Size.TheVariants.{Byte, Half, Word, Double}
use Rattle.bpf_decode.specs.declared.op.Width.TheVariants.{W64}
use Rattle.bpf_helpers.specs.declared.range.Range.{Range}
use Rattle.bpf_semantics.specs.Machine.{Machine, Place, InRecord, InStack, Nowhere, all_present}
use Rattle.bpf_semantics.specs.Machine.{bytes_at, loaded, size_type}
use Rattle.bpf_regstate.specs.declared.reg.Reg.{Reg}
use Rattle.bpf_regstate.specs.declared.reg.Reg.TheVariants.{Uninit, Known}
use Rattle.bpf_regstate.specs.Shape.{Shape, IsShape, known_word}
use Rattle.bpf_regstate.specs.Ranges.{full, is_single}
use Rattle.bpf_regstate.specs.Holds.{In, HoldsWord, Holds, IsMachine, AreBytes, stack_word}
use Rattle.bpf_regstate.specs.Effect.{access, is_word, load_range, loaded_range, range_of}
use Rattle.bpf_regstate.specs.Effect.{store_words, stored_words, untouched, with_word}
use Rattle.bpf_regstate.specs.Effect.{without_words, word_at}
use Rattle.bpf_regstate.proofs.ResultsInRange.{both, full_in}
use Rattle.bpf_regstate.proofs.AccessHolds.{access_moves, inside_stack, loads_in, size_below}
use Rattle.bpf_regstate.proofs.Parts.{outside, length-replaced, where_is}

-- ---- what a store leaves, by where it goes

pub store_leaves : (words new : List Reg) (r : Range) (n at first count : ℕ) (value : Range)
    → is_word r at n ≡ false → first ≡ word_at (at + (r.hi - r.lo + n) - 1)
    → count ≡ (at % 8 + (r.hi - r.lo + n) + 7) / 8 → new ≡ without_words words first count
    → new ≡ stored_words words r (InStack at) n value
store_leaves words new r n at first count value other e f new_is =
    rw other (new_is ∙ ap (λ (w : ℕ). without_words words w count) e
    ∙ ap (without_words words (word_at (at + (r.hi - r.lo + n) - 1))) f)

-- ---- one word

-- the number that eight bytes are, where they are there
abbrev number : Option (List ℕ) → Option ℕ
number o = elim o [ None ↦ None | Some bytes ↦ Some (from_le_bytes w64 bytes) ]

-- a word of which no byte is replaced is the same
same_word : (stack os : List (Option ℕ)) (at n w : ℕ) → length os ≡ n → at + n ≤ length stack
    → (504 - 8 * w + 8 ≤ at) ⊎ (at + n ≤ 504 - 8 * w)
    → stack_word (take at stack ++ (os ++ drop (at + n) stack)) w ≡ stack_word stack w
same_word stack os at n w len fits apart =
    let after : List (Option ℕ) = take at stack ++ (os ++ drop (at + n) stack) in
    let as_long : length after ≡ length stack = length-replaced stack os at n len fits in
    let from : ℕ = 504 - 8 * w in
    let part : take 8 (drop from after) ≡ take 8 (drop from stack) =
    ext_get_or None (take 8 (drop from after)) (take 8 (drop from stack))
    (omega (
      arith,
      length-take 8 (drop from after),
      length-take 8 (drop from stack),
      length-drop from after,
      length-drop from stack,
      as_long,
    ))
    (λ i less.
    let few : i < 8 = omega (arith, less, length-take 8 (drop from after)) in
    get_or-take 8 (drop from after) i None few
    ∙ get_or-drop from after i None
    ∙ outside stack os at n (from + i) None len fits
    (⊎_elim (λ (before : from + 8 ≤ at). inl (omega (arith, before, few)))
    (λ (behind : at + n ≤ from). inr (omega (arith, behind))) apart)
    ∙ sym (get_or-take 8 (drop from stack) i None few ∙ get_or-drop from stack i None))
    in
    ap (λ (os : List (Option ℕ)). number (all_present os)) part

-- the word that is stored
word_stored : (stack : List (Option ℕ)) (at v : ℕ) → at % 8 ≡ 0 → length stack ≡ 512
    → at + 8 ≤ 512 → v < 2 ^ 64
    → stack_word (take at stack ++ (map (λ b. Some b) (to_le_bytes w64 v) ++ drop (at + 8) stack))
    (word_at at) ≡ Some v
word_stored stack at v aligned len fits below =
    let rest : List (Option ℕ) = map (λ b. Some b) (to_le_bytes w64 v) ++ drop (at + 8) stack in
    let place : 504 - 8 * word_at at ≡ at = omega (arith, aligned, fits, len) in
    let front : length (take at stack) ≡ at = length-take-le at stack (omega (arith, fits, len)) in
    let behind : drop at (take at stack ++ rest) ≡ rest =
    subst (λ (n : ℕ). drop n (take at stack ++ rest) ≡ rest) front
    (drop-append_seam (take at stack) rest) in
    ap (λ (n : ℕ). number (all_present (take 8 (drop n (take at stack ++ rest))))) place
    ∙ ap (λ (os : List (Option ℕ)). number (all_present (take 8 os))) behind
    ∙ ap (λ (x : ℕ). Some x) (from_le_bytes-to_le_bytes_8 v below)

-- what is kept of one word more, and of so many fewer
with_here : (xs : List Reg) (w : ℕ) (r : Range) → get_or (with_word xs w r) w Uninit ≡ Known r
with_here [] zero r = refl
with_here [] (suc w) r = with_here [] w r
with_here (x ∷ xs) zero r = refl
with_here (x ∷ xs) (suc w) r = with_here xs w r

with_elsewhere : (xs : List Reg) (w v : ℕ) (r : Range) → v ≢ w
    → get_or (with_word xs w r) v Uninit ≡ get_or xs v Uninit
with_elsewhere [] zero zero r other = absurd (other refl)
with_elsewhere [] zero (suc v) r other = refl
with_elsewhere [] (suc w) zero r other = refl
with_elsewhere [] (suc w) (suc v) r other = with_elsewhere [] w v r (λ e. other (ap suc e))
with_elsewhere (x ∷ xs) zero zero r other = absurd (other refl)
with_elsewhere (x ∷ xs) zero (suc v) r other = refl
with_elsewhere (x ∷ xs) (suc w) zero r other = refl
with_elsewhere (x ∷ xs) (suc w) (suc v) r other =
    with_elsewhere xs w v r (λ e. other (ap suc e))

without_inside : (xs : List Reg) (w count v : ℕ) → w ≤ v → v < w + count
    → get_or (without_words xs w count) v Uninit ≡ Uninit
without_inside [] w count v low high = refl
without_inside (x ∷ xs) zero zero v low high = absurd (omega arith)
without_inside (x ∷ xs) zero (suc count) zero low high = refl
without_inside (x ∷ xs) zero (suc count) (suc v) low high =
    without_inside xs zero count v (omega arith) (omega arith)
without_inside (x ∷ xs) (suc w) count zero low high = absurd (omega arith)
without_inside (x ∷ xs) (suc w) count (suc v) low high =
    without_inside xs w count v (omega arith) (omega arith)

without_outside : (xs : List Reg) (w count v : ℕ) → (v < w) ⊎ (w + count ≤ v)
    → get_or (without_words xs w count) v Uninit ≡ get_or xs v Uninit
without_outside [] w count v out = refl
without_outside (x ∷ xs) zero zero v out = refl
without_outside (x ∷ xs) zero (suc count) zero (inl less) = absurd (omega arith)
without_outside (x ∷ xs) zero (suc count) zero (inr more) = absurd (omega arith)
without_outside (x ∷ xs) zero (suc count) (suc v) (inl less) = absurd (omega arith)
without_outside (x ∷ xs) zero (suc count) (suc v) (inr more) =
    without_outside xs zero count v (inr (omega arith))
without_outside (x ∷ xs) (suc w) count zero out = refl
without_outside (x ∷ xs) (suc w) count (suc v) (inl less) =
    without_outside xs w count v (inl (omega arith))
without_outside (x ∷ xs) (suc w) count (suc v) (inr more) =
    without_outside xs w count v (inr (omega arith))

-- what is known of a word has the number that is there
known_in : (x : Reg) (o : Option ℕ) (v : ℕ) → v < 2 ^ 64 → HoldsWord x o → o ≡ Some v
    → In (range_of x) v
known_in Uninit o v below h is = full_in W64 v below
known_in (Known r) None v below h is = elim h [ ]
known_in (Known r) (Some u) v below h is = let same : u ≡ v = cc in rw same at h

module _ (m : Machine) (s : Shape) (i : IsShape s) (k : IsMachine m) (h : Holds s m) where
  -- ---- loads

  module _ (record_bytes : List ℕ) (short : length record_bytes < 2 ^ 32) (r : Range) (a : ℕ)
      (offset : ℤ) (there : In r a) (bs : List ℕ) (bytes : AreBytes bs) where
    word_loaded : (at : ℕ) → access (length record_bytes) r offset 8 ≡ InStack at
        → loaded record_bytes m w64 a offset ≡ Some (from_le_bytes w64 bs)
        → (t : Bool) → (is_single r && at % 8 == 0) ≡ t
        → In (cond t (range_of (known_word s (word_at at))) (full W64)) (from_le_bytes w64 bs)
    word_loaded at is e true f =
        let parts = both (is_single r) (at % 8 == 0) f in
        let one = eqb-true _ _ parts.0 in
        let aligned = eqb-true _ _ parts.1 in
        let place = access_moves (length record_bytes) r a offset 8 (InStack at) short tt there is
        in
        let fits = inside_stack (length record_bytes) (pos r.lo +ℤ offset) (r.hi - r.lo + 8) at is
        in
        let same : at + (a - r.lo) ≡ 504 - 8 * word_at at =
        omega (arith, there.low, there.high, one, aligned, fits) in
        let found : stack_word m.stack (word_at at) ≡ Some (from_le_bytes w64 bs) =
        sym (ap (λ (p : Place). number (bytes_at record_bytes m.stack p 8)) place
        ∙ ap (λ (n : ℕ). number (all_present (take 8 (drop n m.stack)))) same) ∙ e in
        known_in (known_word s (word_at at)) (stack_word m.stack (word_at at))
        (from_le_bytes w64 bs) (size_below Double bs bytes) (h.words (word_at at)) found
    word_loaded at is e false f = full_in W64 (from_le_bytes w64 bs) (size_below Double bs bytes)

    in_stack : (size : Size) (at : ℕ)
        → access (length record_bytes) r offset (byte_len (size_type size)) ≡ InStack at
        → loaded record_bytes m (size_type size) a offset
        ≡ Some (from_le_bytes (size_type size) bs)
        → In (loaded_range s.words r (InStack at) (byte_len (size_type size)))
        (from_le_bytes (size_type size) bs)
    in_stack Byte at is e = loads_in Byte bs bytes
    in_stack Half at is e = loads_in Half bs bytes
    in_stack Word at is e = loads_in Word bs bytes
    in_stack Double at is e = word_loaded at is e (is_single r && at % 8 == 0) refl

    -- what is loaded lies in its range
    pub load_in : (size : Size)
        → loaded record_bytes m (size_type size) a offset
        ≡ Some (from_le_bytes (size_type size) bs)
        → In (load_range (length record_bytes) s.words r offset (byte_len (size_type size)))
        (from_le_bytes (size_type size) bs)
    load_in size e =
        by_place (access (length record_bytes) r offset (byte_len (size_type size))) refl
      where
        by_place : (p : Place)
            → access (length record_bytes) r offset (byte_len (size_type size)) ≡ p
            → In (loaded_range s.words r p (byte_len (size_type size)))
            (from_le_bytes (size_type size) bs)
        by_place (InRecord at) is = loads_in size bs bytes
        by_place (InStack at) is = in_stack size at is e
        by_place Nowhere is = loads_in size bs bytes

  -- ---- stores

  -- of a word behind the list nothing is known
  few_words : (w : ℕ) → 64 ≤ w → known_word s w ≡ Uninit
  few_words w past = get_or_past s.words w Uninit (omega (arith, i.words, past))

  -- bytes are stored somewhere among those whose words are not kept
  untouched_hold : (at n to : ℕ) (bs : List ℕ) → 1 ≤ n → at + n ≤ 512 → at ≤ to
      → to + length bs ≤ at + n → (w : ℕ)
      → HoldsWord (get_or (untouched s.words at n) w Uninit)
      (stack_word (take to m.stack ++ (map (λ b. Some b) bs ++ drop (to + length bs) m.stack)) w)
  untouched_hold at n to bs some fits low high w =
      let first : ℕ = word_at (at + n - 1) in
      let count : ℕ = (at % 8 + n + 7) / 8 in
      let bytes_fit : to + length bs ≤ length m.stack = omega (arith, fits, high, k.stack) in
      ⊎_elim
      (λ (out : (w < first) ⊎ (first + count ≤ w)).
      rw (without_outside s.words first count w out)
      (⊎_elim
      (λ (inner : w < 64).
      rw (same_word m.stack (map (λ b. Some b) bs) to (length bs) w (length-map bs (λ b. Some b))
      bytes_fit
      (⊎_elim
      (λ (before : w < first). inr (omega (arith, before, high, some, fits)))
      (λ (behind : first + count ≤ w). inl (omega (arith, behind, low, some, fits, inner))) out))
      (h.words w))
      (λ (past : 64 ≤ w). rw (few_words w past) tt) (cases_lt w 64)))
      (λ (part : (first ≤ w) × (w < first + count)).
      rw (without_inside s.words first count w part.0 part.1) tt)
      (where_is first count w)

  -- a word is stored, and kept
  kept_hold : (at v : ℕ) (value : Range) → at % 8 ≡ 0 → at + 8 ≤ 512 → v < 2 ^ 64 → In value v
      → (w : ℕ) → HoldsWord (get_or (with_word s.words (word_at at) value) w Uninit)
      (stack_word (take at m.stack
      ++ (map (λ b. Some b) (to_le_bytes w64 v) ++ drop (at + 8) m.stack)) w)
  kept_hold at v value aligned fits below there w = by_test (w == word_at at) refl
    where
      by_test : (t : Bool) → (w == word_at at) ≡ t
          → HoldsWord (get_or (with_word s.words (word_at at) value) w Uninit)
          (stack_word (take at m.stack
          ++ (map (λ b. Some b) (to_le_bytes w64 v) ++ drop (at + 8) m.stack)) w)
      by_test true e =
          let same : w ≡ word_at at = eqb-true _ _ e in
          rw same (rw (
            with_here s.words (word_at at) value,
            word_stored m.stack at v aligned k.stack fits below,
          ) there)
      by_test false e =
          let other : w ≢ word_at at = eqb-false _ _ e in
          rw (with_elsewhere s.words (word_at at) w value other)
          (⊎_elim
          (λ (inner : w < 64).
          rw (same_word m.stack (map (λ b. Some b) (to_le_bytes w64 v)) at 8 w refl
          (omega (arith, fits, k.stack)) (apart (cases_lt w (word_at at)) other inner))
          (h.words w))
          (λ (past : 64 ≤ w). rw (few_words w past) tt) (cases_lt w 64))
        where
          apart : (w < word_at at) ⊎ (word_at at ≤ w) → w ≢ word_at at → w < 64
              → (504 - 8 * w + 8 ≤ at) ⊎ (at + 8 ≤ 504 - 8 * w)
          apart (inl less) other inner = inr (omega (arith, less, aligned))
          apart (inr more) other inner =
              let past : word_at at < w = omega (arith, more, other) in
              inl (omega (arith, past, aligned, inner))

  stored_hold : (size : Size) (r : Range) (a at v : ℕ) (value : Range) → In r a
      → at + (r.hi - r.lo + byte_len (size_type size)) ≤ 512 → v < 2 ^ 64 → In value v → (w : ℕ)
      → HoldsWord
      (get_or (stored_words s.words r (InStack at) (byte_len (size_type size)) value) w Uninit)
      (stack_word (take (at + (a - r.lo)) m.stack
      ++ (map (λ b. Some b) (take (byte_len (size_type size)) (to_le_bytes w64 v))
      ++ drop (at + (a - r.lo) + length (take (byte_len (size_type size)) (to_le_bytes w64 v)))
      m.stack)) w)
  stored_hold Byte r a at v value there fits below inner w =
      untouched_hold at (r.hi - r.lo + 1) (at + (a - r.lo)) (take 1 (to_le_bytes w64 v))
      (omega arith) fits (omega arith) (omega (arith, there.low, there.high)) w
  stored_hold Half r a at v value there fits below inner w =
      untouched_hold at (r.hi - r.lo + 2) (at + (a - r.lo)) (take 2 (to_le_bytes w64 v))
      (omega arith) fits (omega arith) (omega (arith, there.low, there.high)) w
  stored_hold Word r a at v value there fits below inner w =
      untouched_hold at (r.hi - r.lo + 4) (at + (a - r.lo)) (take 4 (to_le_bytes w64 v))
      (omega arith) fits (omega arith) (omega (arith, there.low, there.high)) w
  stored_hold Double r a at v value there fits below inner w =
      by_test (is_single r && at % 8 == 0) refl
    where
      by_test : (t : Bool) → (is_single r && at % 8 == 0) ≡ t
          → HoldsWord (get_or (cond t (with_word s.words (word_at at) value)
          (untouched s.words at (r.hi - r.lo + 8))) w Uninit)
          (stack_word (take (at + (a - r.lo)) m.stack
          ++ (map (λ b. Some b) (to_le_bytes w64 v)
          ++ drop (at + (a - r.lo) + 8) m.stack)) w)
      by_test true e =
          let parts = both (is_single r) (at % 8 == 0) e in
          let one = eqb-true _ _ parts.0 in
          let same : at + (a - r.lo) ≡ at = omega (arith, there.low, there.high, one) in
          rw same (kept_hold at v value (eqb-true _ _ parts.1) (omega (arith, fits)) below inner w)
      by_test false e =
          untouched_hold at (r.hi - r.lo + 8) (at + (a - r.lo)) (to_le_bytes w64 v) (omega arith)
          fits (omega arith) (omega (arith, there.low, there.high)) w

  -- the words after a store to one of these addresses
  pub store_holds : (record_length : ℕ) (size : Size) (r : Range) (offset : ℤ) (a at v : ℕ)
      (value : Range) → In r a
      → access record_length r offset (byte_len (size_type size)) ≡ InStack at
      → v < 2 ^ 64 → In value v → (w : ℕ)
      → HoldsWord (get_or
      (store_words record_length s.words r offset (byte_len (size_type size)) value) w Uninit)
      (stack_word (take (at + (a - r.lo)) m.stack
      ++ (map (λ b. Some b) (take (byte_len (size_type size)) (to_le_bytes w64 v))
      ++ drop (at + (a - r.lo) + length (take (byte_len (size_type size)) (to_le_bytes w64 v)))
      m.stack)) w)
  store_holds record_length size r offset a at v value there is below inner w =
      let fits = inside_stack record_length (pos r.lo +ℤ offset)
      (r.hi - r.lo + byte_len (size_type size)) at is in
      rw is (stored_hold size r a at v value there fits below inner w)
