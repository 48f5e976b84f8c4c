-- Each state at a slot of a program is well formed: its ranges have words, and words alone.
use Rattle.std.proofs.Common.{◌≡◌, ℕ, zero, suc, ◌+◌, ◌-◌, ◌*◌, ◌/◌, ◌%◌, ◌<◌, ◌≤◌, ◌^◌, max, Bool}
use Rattle.std.proofs.Common.{true, false}
use Rattle.std.proofs.Common.{not, ◌&&◌, cond, eqb, ltb, leb, List, [], ◌∷◌, ◌++◌, length}
use Rattle.std.proofs.Common.{replicate, Option, Some, None, IsTrue, IfSome, refl, ap, ◌∙◌, arith}
use Rattle.std.proofs.Common.{get_or, set, lit<, lit≤}
use Rattle.std.specs.Prelude.{slice_get, ℤ, pos, ◌+ℤ◌}
use Rattle.std.specs.Int.{byte_len, cast_unsigned, w32, w64}
use Rattle.std.specs.Int.RustNames.{FitsSigned}
use Rattle.std.specs.List.{list_all}
use Rattle.std.proofs.lemmas.Int.{ints}
use Rattle.std.proofs.lemmas.Bool.{eqb-true, leb-true, ltb-true}
use Rattle.std.proofs.lemmas.List.{length-set, length-replicate}
use Rattle.bpf_decode.specs.declared.op.Op.{Op}
use Rattle.bpf_decode.specs.declared.op.Op.TheVariants.{Arith, Negate, Extend, End, Ja, Ja32, Jump}
use Rattle.bpf_decode.specs.declared.op.Op.TheVariants.{Call, Exit, Load, LoadSigned, Store, Wide}
use Rattle.bpf_decode.specs.declared.op.Op.TheVariants.{Tail}
use Rattle.bpf_decode.specs.declared.op.Operand.{Operand}
use Rattle.bpf_decode.specs.declared.op.Operand.TheVariants.{From, Immediate}
use Rattle.bpf_decode.specs.declared.op.Width.{Width}
use Rattle.bpf_decode.specs.declared.op.Width.TheVariants.{W32, W64}
use Rattle.bpf_decode.specs.declared.op.Code.{Code}
use Rattle.bpf_decode.specs.declared.op.Condition.{Condition}
use Rattle.bpf_decode.specs.declared.op.Part.{Part}
use Rattle.bpf_decode.specs.declared.op.ByteOrder.{ByteOrder}
use Rattle.bpf_decode.specs.declared.op.ByteOrder.TheVariants.{Little, Big, Swap}
use Rattle.bpf_decode.specs.declared.op.Bytes.{Bytes}
use Rattle.bpf_decode.specs.declared.op.Bytes.TheVariants.{Two, Four, Eight}
use Rattle.bpf_decode.specs.declared.op.Size.{Size}
use Rattle.bpf_decode.specs.declared.op.Size.TheVariants.{Byte, Half, Word, Double}
use Rattle.bpf_decode.specs.Encoding.{FitsSlot, IsProgram}
use Rattle.bpf_decode.specs.Words.{count_of, extended, low, negated, ordered, part_bits}
use Rattle.bpf_decode.proofs.ProgramLemmas.{slot_can_be_encoded}
use Rattle.bpf_helpers.specs.declared.range.Range.{Range}
use Rattle.bpf_helpers.specs.Promise.{Promise, are_well_formed, is_ordered, is_well_formed}
use Rattle.bpf_helpers.specs.Promise.{signature_of}
use Rattle.bpf_semantics.specs.Machine.{Place, InRecord, InStack, Nowhere, size_type, target}
use Rattle.bpf_regstate.specs.declared.reg.Reg.{Reg}
use Rattle.bpf_regstate.specs.declared.reg.Reg.TheVariants.{Uninit, Known}
use Rattle.bpf_regstate.specs.Shape.{Shape, IsRange, IsReg, IsShape, known, known_word}
use Rattle.bpf_regstate.specs.Ranges.{span, full, is_single, modulus, reduced}
use Rattle.bpf_regstate.specs.Holds.{IsOperand}
use Rattle.bpf_regstate.specs.Effect.{access, after_op, answer_reg, arith_result, extend_range}
use Rattle.bpf_regstate.specs.Effect.{is_word, load_range, loaded_range, marked, negate_range}
use Rattle.bpf_regstate.specs.Effect.{operand_reg, order_range, order_result, range_of, store_marks}
use Rattle.bpf_regstate.specs.Effect.{store_words, stored_words, untouched, with_register}
use Rattle.bpf_regstate.specs.Effect.{with_word}
use Rattle.bpf_regstate.specs.Effect.{without_words, word_at}
use Rattle.bpf_regstate.specs.Narrowing.{compared, immediate_word, is_low, narrowed, narrows}
use Rattle.bpf_regstate.specs.Narrowing.{put_both, refined, same_register}
use Rattle.bpf_regstate.specs.Edges.{edge, edges}
use Rattle.bpf_regstate.specs.Faults.{faults, least}
use Rattle.bpf_regstate.specs.States.{join_with, join_all, start_shape, into, unless_fault, sends}
use Rattle.bpf_regstate.specs.States.{arriving, entering, state_from, states, state_at}
use Rattle.bpf_regstate.proofs.ResultsInRange.{both, low_below, reduced_high, reduced_in}
use Rattle.bpf_regstate.proofs.ResultsInRange.{width_fits}
use Rattle.bpf_regstate.proofs.ResultsOfOne.{extended_below, turned_below, low_bytes}
use Rattle.bpf_regstate.proofs.Ordered.{AreRanges, full_words, narrowed_ordered, result_ordered}
use Rattle.bpf_regstate.proofs.Shapes.{call_is_shape, join_is_shape}
use Rattle.bpf_regstate.proofs.AccessHolds.{inside_stack}
use Rattle.bpf_regstate.proofs.Steps.{range_is}
use Rattle.bpf_regstate.proofs.Parts.{length-replaced}

-- ---- ranges

choice_is : (b : Bool) (r s : Range) → (b ≡ true → IsRange r) → (b ≡ false → IsRange s)
    → IsRange (cond b r s)
choice_is true r s f g = f refl
choice_is false r s f g = g refl

one_word : (v : ℕ) → v < 2 ^ 64 → IsRange (span v v)
one_word v h = record { ordered = omega arith; words = h }

full_is : (w : Width) → IsRange (full w)
full_is w = record { ordered = omega arith; words = full_words w }

negate_is : (w : Width) (a : Range) → IsRange (negate_range w a)
negate_is w a =
    choice_is (eqb a.lo a.hi) (span (negated w a.lo) (negated w a.lo)) (full w)
    (λ e. one_word (negated w a.lo)
    (omega (arith, low_below w (modulus w - low w a.lo), width_fits w))) (λ e. full_is w)

reduced_is : (w : Width) (b : Range) → IsRange b → IsRange (reduced w b)
reduced_is w b i =
    let there = reduced_in w b b.lo (omega (arith, i.ordered, i.words))
    (record { low = omega arith; high = i.ordered }) in
    record { ordered = omega (arith, there.low, there.high); words = reduced_high w b i.words }

extend_is : (w : Width) (part : Part) (b : Range) → IsRange b → IsRange (extend_range w part b)
extend_is w part b i =
    choice_is (eqb b.lo b.hi) (span (extended w part b.lo) (extended w part b.lo))
    (cond (ltb (reduced w b).hi (2 ^ (part_bits part - 1))) (reduced w b) (full w))
    (λ e. one_word (extended w part b.lo) (omega (arith, extended_below w part b.lo, width_fits w)))
    (λ e. choice_is (ltb (reduced w b).hi (2 ^ (part_bits part - 1))) (reduced w b) (full w)
    (λ f. reduced_is w b i) (λ f. full_is w))

bytes_are_words : (n : Bytes) → 2 ^ (8 * count_of n) ≤ 2 ^ 64
bytes_are_words Two = lit≤ tt
bytes_are_words Four = lit≤ tt
bytes_are_words Eight = lit≤ tt

some_bytes : (n : Bytes) → 0 < 2 ^ (8 * count_of n)
some_bytes Two = lit< tt
some_bytes Four = lit< tt
some_bytes Eight = lit< tt

all_bytes : (n : Bytes) → IsRange (span 0 (2 ^ (8 * count_of n) - 1))
all_bytes n = record {
  ordered = omega arith;
  words = omega (arith, bytes_are_words n, some_bytes n);
}

order_is : (order : ByteOrder) (n : Bytes) (a : Range) → IsRange a → IsRange (order_range order n a)
order_is Little n a i = choice_is (ltb a.hi (2 ^ (8 * count_of n))) a
    (span 0 (2 ^ (8 * count_of n) - 1)) (λ e. i) (λ e. all_bytes n)
order_is Big n a i = all_bytes n
order_is Swap n a i = all_bytes n

ordered_below : (order : ByteOrder) (n : Bytes) (x : ℕ) → ordered order n x < 2 ^ (8 * count_of n)
ordered_below Little n x = low_bytes n x
ordered_below Big n x = turned_below n x
ordered_below Swap n x = turned_below n x

order_result_is : (order : ByteOrder) (n : Bytes) (a : Range) → IsRange a
    → IsRange (order_result order n a)
order_result_is order n a i =
    choice_is (eqb a.lo a.hi) (span (ordered order n a.lo) (ordered order n a.lo))
    (order_range order n a)
    (λ e. one_word (ordered order n a.lo)
    (omega (arith, ordered_below order n a.lo, bytes_are_words n))) (λ e. order_is order n a i)

size_is : (size : Size) → IsRange (span 0 (2 ^ (8 * byte_len (size_type size)) - 1))
size_is Byte = record { ordered = lit≤ tt; words = lit< tt }
size_is Half = record { ordered = lit≤ tt; words = lit< tt }
size_is Word = record { ordered = lit≤ tt; words = lit< tt }
size_is Double = record { ordered = lit≤ tt; words = lit< tt }

-- ---- one instruction

set_at : (xs : List Reg) (d r : ℕ) (x : Reg) → IsReg x → IsReg (get_or xs r Uninit)
    → IsReg (get_or (set xs d x) r Uninit)
set_at [] d r x new old = old
set_at (y ∷ xs) zero zero x new old = new
set_at (y ∷ xs) zero (suc r) x new old = old
set_at (y ∷ xs) (suc d) zero x new old = old
set_at (y ∷ xs) (suc d) (suc r) x new old = set_at xs d r x new old

pub set_is_shape : (s : Shape) (d : ℕ) (r : Range) → IsShape s → IsRange r
    → IsShape (with_register s d (Known r))
set_is_shape s d r i range = record {
  registers = omega (arith, length-set s.registers d (Known r), i.registers);
  marks = i.marks;
  words = i.words;
  ranges = λ n. set_at s.registers d n (Known r) range (i.ranges n);
  word_ranges = i.word_ranges;
}

operand_is : (s : Shape) (from : Operand) → IsShape s → IsOperand from
    → IsRange (range_of (operand_reg s from))
operand_is s (From r) i f = range_is (known s r) (i.ranges r)
operand_is s (Immediate v) i f = one_word (cast_unsigned w64 v) (omega (arith, ints, f))

store_length : (record_length : ℕ) (marks : List Bool) (r : Range) (offset : ℤ) (n : ℕ)
    → length marks ≡ 512 → length (store_marks record_length marks r offset n) ≡ 512
store_length record_length marks r offset n len = by_test (is_single r) refl
  where
    by_place : (p : Place) → access record_length r offset n ≡ p → r.lo ≡ r.hi
        → length (marked marks p n) ≡ 512
    by_place (InRecord at) e one = len
    by_place (InStack at) e one =
        let fits = inside_stack record_length (pos r.lo +ℤ offset) (r.hi - r.lo + n) at e in
        length-replaced marks (replicate n true) at n (length-replicate n true)
        (omega (arith, fits, len)) ∙ len
    by_place Nowhere e one = len

    by_test : (t : Bool) → is_single r ≡ t
        → length (cond t (marked marks (access record_length r offset n) n) marks) ≡ 512
    by_test true e = by_place (access record_length r offset n) refl (eqb-true _ _ e)
    by_test false e = len

-- the words of the stack after a store, and what a load gives of them
with_length : (xs : List Reg) (w : ℕ) (r : Range) → w < 64 → length xs ≤ 64
    → length (with_word xs w r) ≤ 64
with_length xs w r few len = omega (arith, grown xs w, few, len)
  where
    grown : (ys : List Reg) (v : ℕ) → length (with_word ys v r) ≤ max (length ys) (suc v)
    grown [] zero = omega arith
    grown [] (suc v) = omega (arith, grown [] v)
    grown (y ∷ ys) zero = omega arith
    grown (y ∷ ys) (suc v) = omega (arith, grown ys v)

without_length : (xs : List Reg) (w count : ℕ) → length (without_words xs w count) ≡ length xs
without_length [] w count = refl
without_length (x ∷ xs) zero zero = refl
without_length (x ∷ xs) zero (suc count) = ap suc (without_length xs zero count)
without_length (x ∷ xs) (suc w) count = ap suc (without_length xs w count)

with_is : (xs : List Reg) (w v : ℕ) (r : Range) → IsRange r → ((k : ℕ) → IsReg (get_or xs k Uninit))
    → IsReg (get_or (with_word xs w r) v Uninit)
with_is [] zero zero r range each = range
with_is [] zero (suc v) r range each = tt
with_is [] (suc w) zero r range each = tt
with_is [] (suc w) (suc v) r range each = with_is [] w v r range (λ k. tt)
with_is (x ∷ xs) zero zero r range each = range
with_is (x ∷ xs) zero (suc v) r range each = each (suc v)
with_is (x ∷ xs) (suc w) zero r range each = each 0
with_is (x ∷ xs) (suc w) (suc v) r range each = with_is xs w v r range (λ k. each (suc k))

without_is : (xs : List Reg) (w count v : ℕ) → ((k : ℕ) → IsReg (get_or xs k Uninit))
    → IsReg (get_or (without_words xs w count) v Uninit)
without_is [] w count v each = tt
without_is (x ∷ xs) zero zero v each = each v
without_is (x ∷ xs) zero (suc count) zero each = tt
without_is (x ∷ xs) zero (suc count) (suc v) each = without_is xs zero count v (λ k. each (suc k))
without_is (x ∷ xs) (suc w) count zero each = each 0
without_is (x ∷ xs) (suc w) count (suc v) each = without_is xs w count v (λ k. each (suc k))

-- the same state with other words
abbrev with_words : Shape → List Reg → Shape
with_words s words = record { registers = s.registers; marks = s.marks; words = words }

pub kept_is_shape : (s : Shape) (w : ℕ) (r : Range) → IsShape s → IsRange r → w < 64
    → IsShape (with_words s (with_word s.words w r))
kept_is_shape s w r i range few = record {
  registers = i.registers;
  marks = i.marks;
  words = with_length s.words w r few i.words;
  ranges = i.ranges;
  word_ranges = λ v. with_is s.words w v r range i.word_ranges;
}

pub untouched_is_shape : (s : Shape) (w count : ℕ) → IsShape s
    → IsShape (with_words s (without_words s.words w count))
untouched_is_shape s w count i = record {
  registers = i.registers;
  marks = i.marks;
  words = omega (arith, without_length s.words w count, i.words);
  ranges = i.ranges;
  word_ranges = λ v. without_is s.words w count v i.word_ranges;
}

module _ (record_length : ℕ) (s : Shape) (r : Range) (offset : ℤ) where
  store_words_length : (n : ℕ) (value : Range) → IsShape s
      → length (store_words record_length s.words r offset n value) ≤ 64
  store_words_length n value i = by_place (access record_length r offset n)
    where
      by_test : (t : Bool) (at : ℕ)
          → length (cond t (with_word s.words (word_at at) value)
          (untouched s.words at (r.hi - r.lo + n))) ≤ 64
      by_test true at = with_length s.words (word_at at) value (omega arith) i.words
      by_test false at =
          omega (
            arith,
            without_length s.words (word_at (at + (r.hi - r.lo + n) - 1))
                ((at % 8 + (r.hi - r.lo + n) + 7) / 8),
            i.words,
          )

      by_place : (p : Place) → length (stored_words s.words r p n value) ≤ 64
      by_place (InRecord at) = i.words
      by_place (InStack at) = by_test (is_word r at n) at
      by_place Nowhere = i.words

  store_words_are : (n : ℕ) (value : Range) → IsShape s → IsRange value → (w : ℕ)
      → IsReg (get_or (store_words record_length s.words r offset n value) w Uninit)
  store_words_are n value i range w = by_place (access record_length r offset n)
    where
      by_test : (t : Bool) (at : ℕ)
          → IsReg (get_or (cond t (with_word s.words (word_at at) value)
          (untouched s.words at (r.hi - r.lo + n))) w Uninit)
      by_test true at = with_is s.words (word_at at) w value range i.word_ranges
      by_test false at =
          without_is s.words (word_at (at + (r.hi - r.lo + n) - 1))
          ((at % 8 + (r.hi - r.lo + n) + 7) / 8) w i.word_ranges

      by_place : (p : Place) → IsReg (get_or (stored_words s.words r p n value) w Uninit)
      by_place (InRecord at) = i.word_ranges w
      by_place (InStack at) = by_test (is_word r at n) at
      by_place Nowhere = i.word_ranges w

  load_is : (size : Size) → IsShape s
      → IsRange (load_range record_length s.words r offset (byte_len (size_type size)))
  load_is size i = by_place (access record_length r offset (byte_len (size_type size)))
    where
      by_place : (p : Place) → IsRange (loaded_range s.words r p (byte_len (size_type size)))
      by_place (InRecord at) = size_is size
      by_place (InStack at) =
          choice_is (is_word r at (byte_len (size_type size)))
          (range_of (known_word s (word_at at)))
          (span 0 (2 ^ (8 * byte_len (size_type size)) - 1))
          (λ e. range_is (known_word s (word_at at)) (i.word_ranges (word_at at)))
          (λ e. size_is size)
      by_place Nowhere = size_is size

ordered_is : (r : Range) → is_ordered r ≡ true → IsRange r
ordered_is r e =
    let parts = both (leb r.lo r.hi) (ltb r.hi (2 ^ 64)) e in
    record { ordered = leb-true _ _ parts.0; words = ltb-true _ _ parts.1 }

-- a well-formed signature has a range of answers
answer_is_range : (sig : Promise) → is_well_formed sig ≡ true → IsRange sig.answer
answer_is_range sig e =
    let last = both _ _ e in
    let keys = both _ _ last.0 in
    ordered_is sig.answer (both _ (is_ordered sig.answer) keys.0).1

answer_is : (sigs : List (ℕ × Promise)) (helper : ℕ) → are_well_formed sigs ≡ true
    → IsReg (answer_reg (signature_of sigs helper))
answer_is [] helper e = tt
answer_is (entry ∷ sigs) helper e =
    let parts = both (is_well_formed entry.1) (list_all (λ x. is_well_formed x.1) sigs) e in
    by_test (eqb entry.0 helper) (answer_is_range entry.1 parts.0) (answer_is sigs helper parts.1)
  where
    by_test : (t : Bool) → IsRange entry.1.answer → IsReg (answer_reg (signature_of sigs helper))
        → IsReg (answer_reg (cond t (Some entry.1) (signature_of sigs helper)))
    by_test true here later = here
    by_test false here later = later

pub arith_operand : (w : Width) (code : Code) (dst : ℕ) (from : Operand)
    → FitsSlot (Arith w code dst from) → IsOperand from
arith_operand w code dst (From r) f = tt
arith_operand w code dst (Immediate v) f = f.2

pub jump_operand : (w : Width) (condition : Condition) (dst : ℕ) (from : Operand) (offset : ℤ)
    → FitsSlot (Jump w condition dst from offset) → IsOperand from
jump_operand w condition dst (From r) offset f = tt
jump_operand w condition dst (Immediate v) offset f = f.2.1

pub store_operand : (size : Size) (base : ℕ) (offset : ℤ) (from : Operand)
    → FitsSlot (Store size base offset from) → IsOperand from
store_operand size base offset (From r) f = tt
store_operand size base offset (Immediate v) f = f.2.1

module _ (record_length : ℕ) (sigs : List (ℕ × Promise)) (well : IsTrue (are_well_formed sigs))
  where
    pub after_is_shape : (op : Op) (s : Shape) → FitsSlot op → IsShape s
        → IsShape (after_op record_length sigs op s)
    after_is_shape (Arith w code dst from) s f i =
        set_is_shape s dst (arith_result code w (range_of (known s dst))
        (range_of (operand_reg s from))) i
        (result_ordered code w (range_of (known s dst)) (range_of (operand_reg s from))
        (range_is (known s dst) (i.ranges dst))
        (operand_is s from i (arith_operand w code dst from f)))
    after_is_shape (Negate w dst) s f i =
        set_is_shape s dst (negate_range w (range_of (known s dst))) i
        (negate_is w (range_of (known s dst)))
    after_is_shape (Extend w part dst src) s f i =
        set_is_shape s dst (extend_range w part (range_of (known s src))) i
        (extend_is w part (range_of (known s src)) (range_is (known s src) (i.ranges src)))
    after_is_shape (End order n dst) s f i =
        set_is_shape s dst (order_result order n (range_of (known s dst))) i
        (order_result_is order n (range_of (known s dst)) (range_is (known s dst) (i.ranges dst)))
    after_is_shape (Ja offset) s f i = i
    after_is_shape (Ja32 offset) s f i = i
    after_is_shape (Jump w condition dst from offset) s f i = i
    after_is_shape (Call helper) s f i =
        call_is_shape s (answer_reg (signature_of sigs helper)) (answer_is sigs helper well) i
    after_is_shape Exit s f i = i
    after_is_shape (Load size dst base offset) s f i =
        set_is_shape s dst
        (load_range record_length s.words (range_of (known s base)) offset
        (byte_len (size_type size))) i
        (load_is record_length s (range_of (known s base)) offset size i)
    after_is_shape (LoadSigned part dst base offset) s f i =
        set_is_shape s dst (full W64) i (full_is W64)
    after_is_shape (Store size base offset from) s f i = record {
      registers = i.registers;
      marks = store_length record_length s.marks (range_of (known s base)) offset
          (byte_len (size_type size)) i.marks;
      words = store_words_length record_length s (range_of (known s base)) offset
          (byte_len (size_type size)) (range_of (operand_reg s from)) i;
      ranges = i.ranges;
      word_ranges = store_words_are record_length s (range_of (known s base)) offset
          (byte_len (size_type size)) (range_of (operand_reg s from)) i
          (operand_is s from i (store_operand size base offset from f));
    }
    after_is_shape (Wide dst value) s f i =
        set_is_shape s dst (span value value) i (one_word value f.2)
    after_is_shape Tail s f i = i

-- ---- a jump

immediate_is : (w : Width) (v : ℤ) → FitsSigned w32 v → immediate_word w v < 2 ^ 64
immediate_is W32 v f = omega (arith, ints, f)
immediate_is W64 v f = omega (arith, ints, f)

compared_is : (w : Width) (s : Shape) (from : Operand) → IsShape s → IsOperand from
    → IsRange (compared w s from)
compared_is w s (From r) i f = range_is (known s r) (i.ranges r)
compared_is w s (Immediate v) i f = one_word (immediate_word w v) (immediate_is w v f)

put_both_is : (s : Shape) (dst : ℕ) (from : Operand) (o : Option (Range × Range)) → IsShape s
    → AreRanges o → IfSome (put_both s dst from o) IsShape
put_both_is s dst from None i a = tt
put_both_is s dst (Immediate v) (Some p) i a = set_is_shape s dst p.0 i a.0
put_both_is s dst (From src) (Some p) i a =
    set_is_shape (with_register s dst (Known p.0)) src p.1 (set_is_shape s dst p.0 i a.0) a.1

pub refined_is_shape : (w : Width) (condition : Condition) (dst : ℕ) (from : Operand) (taken : Bool)
    (s : Shape) → IsOperand from → IsShape s
    → IfSome (refined w condition dst from taken s) IsShape
refined_is_shape w condition dst from taken s f i =
    by_test (narrows condition && not (same_register dst from) && is_low w (range_of (known s dst))
    && is_low w (compared w s from))
  where
    by_test : (t : Bool)
        → IfSome (cond t (put_both s dst from
        (narrowed condition taken (range_of (known s dst)) (compared w s from))) (Some s)) IsShape
    by_test true =
        put_both_is s dst from (narrowed condition taken (range_of (known s dst))
        (compared w s from)) i
        (narrowed_ordered condition taken (range_of (known s dst)) (compared w s from)
        (range_is (known s dst) (i.ranges dst)) (compared_is w s from i f))
    by_test false = i

-- ---- all edges

abbrev AreShapes : List Shape → Type 0
AreShapes [] = Unit {0}
AreShapes (s ∷ ss) = IsShape s × AreShapes ss

abbrev EndInShapes : List (ℕ × Shape) → Type 0
EndInShapes [] = Unit {0}
EndInShapes (e ∷ es) = IsShape e.1 × EndInShapes es

edge_ends : (to : Option ℕ) (o : Option Shape) → IfSome o IsShape → EndInShapes (edge to o)
edge_ends None o i = tt
edge_ends (Some to) None i = tt
edge_ends (Some to) (Some s) i = (i, tt)

both_end : (es fs : List (ℕ × Shape)) → EndInShapes es → EndInShapes fs → EndInShapes (es ++ fs)
both_end [] fs i j = j
both_end (e ∷ es) fs i j = (i.0, both_end es fs i.1 j)

shapes_append : (xs ys : List Shape) → AreShapes xs → AreShapes ys → AreShapes (xs ++ ys)
shapes_append [] ys i j = j
shapes_append (x ∷ xs) ys i j = (i.0, shapes_append xs ys i.1 j)

chosen_shapes : (t : Bool) (s : Shape) (ss : List Shape) → IsShape s → AreShapes ss
    → AreShapes (cond t (s ∷ ss) ss)
chosen_shapes true s ss i j = (i, j)
chosen_shapes false s ss i j = j

into_shapes : (to : ℕ) (es : List (ℕ × Shape)) → EndInShapes es → AreShapes (into to es)
into_shapes to [] i = tt
into_shapes to (e ∷ es) i = chosen_shapes (eqb e.0 to) e.1 (into to es) i.0 (into_shapes to es i.1)

join_with_is : (s : Shape) (o : Option Shape) → IsShape s → IfSome o IsShape
    → IfSome (join_with s o) IsShape
join_with_is s None i j = i
join_with_is s (Some t) i j = join_is_shape s t i j

join_all_is : (ss : List Shape) → AreShapes ss → IfSome (join_all ss) IsShape
join_all_is [] i = tt
join_all_is (s ∷ ss) i = join_with_is s (join_all ss) i.0 (join_all_is ss i.1)

-- ---- the start

start_reg : (record_length : ℕ) → record_length < 2 ^ 64 → (r : ℕ)
    → IsReg (known (start_shape record_length) r)
unfolding start_shape
start_reg record_length h zero = tt
start_reg record_length h (suc zero) = record { ordered = lit≤ tt; words = lit< tt }
start_reg record_length h (suc (suc zero)) = record { ordered = omega arith; words = h }
start_reg record_length h (suc (suc (suc zero))) = record { ordered = lit≤ tt; words = lit< tt }
start_reg record_length h (suc (suc (suc (suc zero)))) =
    record { ordered = lit≤ tt; words = lit< tt }
start_reg record_length h (suc (suc (suc (suc (suc zero))))) = tt
start_reg record_length h (suc (suc (suc (suc (suc (suc zero)))))) = tt
start_reg record_length h (suc (suc (suc (suc (suc (suc (suc zero))))))) = tt
start_reg record_length h (suc (suc (suc (suc (suc (suc (suc (suc zero)))))))) = tt
start_reg record_length h (suc (suc (suc (suc (suc (suc (suc (suc (suc zero))))))))) = tt
start_reg record_length h (suc (suc (suc (suc (suc (suc (suc (suc (suc (suc zero)))))))))) =
    record { ordered = lit≤ tt; words = lit< tt }
start_reg record_length h (suc (suc (suc (suc (suc (suc (suc (suc (suc (suc (suc r))))))))))) = tt

pub start_is_shape : (record_length : ℕ) → record_length < 2 ^ 64
    → IsShape (start_shape record_length)
unfolding start_shape
start_is_shape record_length h =
    record {
      registers = refl;
      marks = length-replicate 512 false;
      words = omega arith;
      ranges = start_reg record_length h;
      word_ranges = λ w. tt;
    }

-- ---- all slots

module _ (record_length : ℕ) (short : record_length < 2 ^ 64) (ops : List Op)
    (program : IsProgram ops) (sigs : List (ℕ × Promise)) (well : IsTrue (are_well_formed sigs))
  where
    edges_end : (slot : ℕ) (op : Op) (s : Shape) → FitsSlot op → IsShape s
        → EndInShapes (edges record_length sigs slot op s)
    edges_end slot (Arith w code dst from) s f i =
        (after_is_shape record_length sigs well (Arith w code dst from) s f i, tt)
    edges_end slot (Negate w dst) s f i =
        (after_is_shape record_length sigs well (Negate w dst) s f i, tt)
    edges_end slot (Extend w part dst src) s f i =
        (after_is_shape record_length sigs well (Extend w part dst src) s f i, tt)
    edges_end slot (End order n dst) s f i =
        (after_is_shape record_length sigs well (End order n dst) s f i, tt)
    edges_end slot (Ja offset) s f i = edge_ends (target slot offset) (Some s) i
    edges_end slot (Ja32 offset) s f i = edge_ends (target slot offset) (Some s) i
    edges_end slot (Jump w condition dst from offset) s f i =
        both_end (edge (target slot offset) (refined w condition dst from true s))
        (edge (Some (slot + 1)) (refined w condition dst from false s))
        (edge_ends (target slot offset) (refined w condition dst from true s)
        (refined_is_shape w condition dst from true s (jump_operand w condition dst from offset f)
        i))
        (edge_ends (Some (slot + 1)) (refined w condition dst from false s)
        (refined_is_shape w condition dst from false s
        (jump_operand w condition dst from offset f) i))
    edges_end slot (Call helper) s f i =
        (after_is_shape record_length sigs well (Call helper) s f i, tt)
    edges_end slot Exit s f i = tt
    edges_end slot (Load size dst base offset) s f i =
        (after_is_shape record_length sigs well (Load size dst base offset) s f i, tt)
    edges_end slot (LoadSigned part dst base offset) s f i =
        (after_is_shape record_length sigs well (LoadSigned part dst base offset) s f i, tt)
    edges_end slot (Store size base offset from) s f i =
        (after_is_shape record_length sigs well (Store size base offset from) s f i, tt)
    edges_end slot (Wide dst value) s f i =
        (after_is_shape record_length sigs well (Wide dst value) s f i, tt)
    edges_end slot Tail s f i = tt

    unless_ends : (o : Option ℕ) (es : List (ℕ × Shape)) → EndInShapes es
        → EndInShapes (unless_fault o es)
    unless_ends None es i = i
    unless_ends (Some code) es i = tt

    sends_end : (slot : ℕ) (here : Option Op) (o : Option Shape) → slice_get ops slot ≡ here
        → IfSome o IsShape → EndInShapes (sends record_length ops sigs slot here o)
    sends_end slot None o e i = tt
    sends_end slot (Some op) None e i = tt
    sends_end slot (Some op) (Some s) e i =
        unless_ends (least (faults record_length ops sigs slot op (Some s)))
        (edges record_length sigs slot op s)
        (edges_end slot op s (slot_can_be_encoded ops program slot op e) i)

    abbrev AreStates : List (Option Shape) → Type 0
    AreStates [] = Unit {0}
    AreStates (o ∷ os) = IfSome o IsShape × AreStates os

    arriving_shapes : (to slot : ℕ) (os : List (Option Shape)) → AreStates os
        → AreShapes (arriving record_length ops sigs to slot os)
    arriving_shapes to slot [] i = tt
    arriving_shapes to slot (o ∷ os) i =
        shapes_append (into to (sends record_length ops sigs slot (slice_get ops slot) o))
        (arriving record_length ops sigs to (suc slot) os)
        (into_shapes to (sends record_length ops sigs slot (slice_get ops slot) o)
        (sends_end slot (slice_get ops slot) o refl i.0)) (arriving_shapes to (suc slot) os i.1)

    entering_shapes : (slot : ℕ) → AreShapes (entering record_length slot)
    entering_shapes zero = (start_is_shape record_length short, tt)
    entering_shapes (suc slot) = tt

    state_from_is : (slot : ℕ) (earlier : List (Option Shape)) → AreStates earlier
        → IfSome (state_from record_length ops sigs slot earlier) IsShape
    state_from_is slot earlier i =
        join_all_is (entering record_length slot ++ arriving record_length ops sigs slot 0 earlier)
        (shapes_append (entering record_length slot)
        (arriving record_length ops sigs slot 0 earlier)
        (entering_shapes slot) (arriving_shapes slot 0 earlier i))

    states_append : (xs ys : List (Option Shape)) → AreStates xs → AreStates ys
        → AreStates (xs ++ ys)
    states_append [] ys i j = j
    states_append (x ∷ xs) ys i j = (i.0, states_append xs ys i.1 j)

    states_are : (n : ℕ) → AreStates (states record_length ops sigs n)
    unfolding states
    states_are zero = tt
    states_are (suc n) =
        states_append (states record_length ops sigs n)
        (state_from record_length ops sigs n (states record_length ops sigs n) ∷ [])
        (states_are n)
        (state_from_is n (states record_length ops sigs n) (states_are n), tt)

    -- the state at a slot, if there is one
    pub state_is_shape : (slot : ℕ) → IfSome (state_at record_length ops sigs slot) IsShape
    state_is_shape slot = state_from_is slot (states record_length ops sigs slot) (states_are slot)
