-- What is known after an instruction that is no conditional jump. Sections are those of RFC 9669;
-- "profile" is this project's profile.
use Rattle.std.specs.Prelude.{ℕ, zero, suc, ◌+◌, ◌-◌, ◌*◌, ◌/◌, ◌%◌, ◌^◌, List, [], ◌∷◌, ◌++◌, take}
use Rattle.std.specs.Prelude.{drop, replicate, Bool, true, ◌&&◌, ◌==◌, nat_lt, if◌then◌else◌}
use Rattle.std.specs.Prelude.{Option, Some, None, slice_index_or, slice_set, ℤ, pos, ◌+ℤ◌}
use Rattle.std.specs.Int as int
use Rattle.std.specs.Int.{cast_unsigned, w64}
use Rattle.bpf_decode.specs.declared.op.Op.{Op}
use Rattle.bpf_decode.specs.declared.op.Op.TheVariants.{Arith, Negate, Extend, End, Call, Load}
use Rattle.bpf_decode.specs.declared.op.Op.TheVariants.{LoadSigned, Store, Wide}
use Rattle.bpf_decode.specs.declared.op.Operand.{Operand}
use Rattle.bpf_decode.specs.declared.op.Operand.TheVariants.{From, Immediate}
use Rattle.bpf_decode.specs.declared.op.Code.{Code}
use Rattle.bpf_decode.specs.declared.op.Code.TheVariants.{Mov}
use Rattle.bpf_decode.specs.declared.op.Width.{Width}
use Rattle.bpf_decode.specs.declared.op.Width.TheVariants.{W64}
use Rattle.bpf_decode.specs.declared.op.Part.{Part}
use Rattle.bpf_decode.specs.declared.op.ByteOrder.{ByteOrder}
use Rattle.bpf_decode.specs.declared.op.ByteOrder.TheVariants.{Little, Big, Swap}
use Rattle.bpf_decode.specs.declared.op.Bytes.{Bytes}
use Rattle.bpf_decode.specs.Words.{negated, extended, ordered, part_bits, count_of}
use Rattle.bpf_helpers.specs.declared.range.Range.{Range}
use Rattle.bpf_helpers.specs.Promise.{Promise, signature_of}
use Rattle.bpf_semantics.specs.Machine.{Place, InStack, InRecord, Nowhere, place_of, size_type}
use Rattle.bpf_regstate.specs.declared.reg.Reg.{Reg}
use Rattle.bpf_regstate.specs.declared.reg.Reg.TheVariants.{Uninit, Known}
use Rattle.bpf_regstate.specs.Shape.{Shape, known}
use Rattle.bpf_regstate.specs.Ranges.{span, is_single, full, reduced, arith_range}

-- ---- registers

-- To read an uninitialised register is a fault, so its range doesn't matter.
abbrev pub range_of : Reg → Range
range_of Uninit = full W64
range_of (Known r) = r

abbrev pub operand_reg : Shape → Operand → Reg
operand_reg s (From r) = known s r
operand_reg s (Immediate v) = Known (span (cast_unsigned w64 v) (cast_unsigned w64 v))

abbrev pub with_register : Shape → ℕ → Reg → Shape
with_register s r v = record {
  registers = slice_set s.registers r v;
  marks = s.marks;
  words = s.words;
}

-- ---- results of one operand

-- 4.1: the machine's own result of one word, and every word of the width otherwise (profile)
abbrev pub negate_range : Width → Range → Range
negate_range w a = if is_single a then span (negated w a.lo) (negated w a.lo) else full w

-- 4.1, MOVSX: what is not negative stays as it is (profile)
abbrev pub extend_range : Width → Part → Range → Range
extend_range w part b =
    if is_single b then span (extended w part b.lo) (extended w part b.lo)
    else (if nat_lt (reduced w b).hi (2 ^ (part_bits part - 1)) then reduced w b else full w)

-- 4.2: of the whole register, also where a word has more bits (profile)
abbrev pub order_range : ByteOrder → Bytes → Range → Range
order_range Little n a = if nat_lt a.hi (2 ^ (8 * count_of n)) then a else
    span 0 (2 ^ (8 * count_of n) - 1)
order_range Big n a = span 0 (2 ^ (8 * count_of n) - 1)
order_range Swap n a = span 0 (2 ^ (8 * count_of n) - 1)

abbrev pub order_result : ByteOrder → Bytes → Range → Range
order_result order n a = if is_single a then span (ordered order n a.lo) (ordered order n a.lo) else
    order_range order n a

-- MOV reads its second operand alone.
abbrev pub arith_result : Code → Width → Range → Range → Range
arith_result Mov w a b = arith_range Mov w b b
arith_result code w a b = arith_range code w a b

-- ---- memory

-- n bytes of the stack from a place on are marked
abbrev pub marked : List Bool → Place → ℕ → List Bool
marked marks (InStack at) n = take at marks ++ (replicate n true ++ drop (at + n) marks)
marked marks (InRecord at) n = marks
marked marks Nowhere n = marks

-- profile: an access of n bytes from a place of the stack on, at the addresses of a range, that is
-- of one aligned word
abbrev pub is_word : Range → ℕ → ℕ → Bool
is_word r at n = n == 8 && is_single r && at % 8 == 0

-- the range is kept of a word of the stack
abbrev pub with_word : List Reg → ℕ → Range → List Reg
with_word [] zero r = Known r ∷ []
with_word [] (suc w) r = Uninit ∷ with_word [] w r
with_word (x ∷ xs) zero r = Known r ∷ xs
with_word (x ∷ xs) (suc w) r = x ∷ with_word xs w r

-- nothing is kept of so many words from one on
abbrev pub without_words : List Reg → ℕ → ℕ → List Reg
without_words [] w count = []
without_words (x ∷ xs) zero zero = x ∷ xs
without_words (x ∷ xs) zero (suc count) = Uninit ∷ without_words xs zero count
without_words (x ∷ xs) (suc w) count = x ∷ without_words xs w count

-- the word of a byte of the stack
abbrev pub word_at : ℕ → ℕ
word_at at = 63 - at / 8

-- what n bytes from a place on touch is no longer kept
abbrev pub untouched : List Reg → ℕ → ℕ → List Reg
untouched words at n = without_words words (word_at (at + n - 1)) ((at % 8 + n + 7) / 8)

-- profile: a store of one aligned word keeps the range of its value, and any other keeps nothing of
-- the words of which it may touch a byte
abbrev pub stored_words : List Reg → Range → Place → ℕ → Range → List Reg
stored_words words r (InStack at) n value =
    if is_word r at n then with_word words (word_at at) value
    else untouched words at (r.hi - r.lo + n)
stored_words words r (InRecord at) n value = words
stored_words words r Nowhere n value = words

-- profile: a load of one aligned word gives what is kept of it, and any other every number of so
-- many bytes
abbrev pub loaded_range : List Reg → Range → Place → ℕ → Range
loaded_range words r (InStack at) n =
    if is_word r at n then range_of (slice_index_or words (word_at at) Uninit)
    else span 0 (2 ^ (8 * n) - 1)
loaded_range words r (InRecord at) n = span 0 (2 ^ (8 * n) - 1)
loaded_range words r Nowhere n = span 0 (2 ^ (8 * n) - 1)

-- profile: the answer lies in the range that the signature promises; an unknown helper is a fault
abbrev pub answer_reg : Option Promise → Reg
answer_reg None = Uninit
answer_reg (Some sig) = Known sig.answer

-- ---- beside a record of this length

module _ (record_length : ℕ) where
  -- profile: where all addresses of an access lie, n bytes from each word of the range plus the
  -- offset
  abbrev pub access : Range → ℤ → ℕ → Place
  access r offset n = place_of record_length (pos r.lo +ℤ offset) (r.hi - r.lo + n)

  -- profile: a store at one address marks its bytes, a store at any of several marks none
  abbrev pub store_marks : List Bool → Range → ℤ → ℕ → List Bool
  store_marks marks r offset n = if is_single r then marked marks (access r offset n) n else marks

  abbrev pub store_words : List Reg → Range → ℤ → ℕ → Range → List Reg
  store_words words r offset n value = stored_words words r (access r offset n) n value

  abbrev pub load_range : List Reg → Range → ℤ → ℕ → Range
  load_range words r offset n = loaded_range words r (access r offset n) n

  -- what is known after an instruction that is no conditional jump
  abbrev pub after_op : List (ℕ × Promise) → Op → Shape → Shape
  after_op sigs (Arith w code dst from) s =
      with_register s dst (Known (arith_result code w (range_of (known s dst))
      (range_of (operand_reg s from))))
  after_op sigs (Negate w dst) s =
      with_register s dst (Known (negate_range w (range_of (known s dst))))
  after_op sigs (Extend w part dst src) s =
      with_register s dst (Known (extend_range w part (range_of (known s src))))
  after_op sigs (End order n dst) s =
      with_register s dst (Known (order_result order n (range_of (known s dst))))
  after_op sigs (Load size dst base offset) s =
      with_register s dst
      (Known (load_range s.words (range_of (known s base)) offset (int.byte_len (size_type size))))
  after_op sigs (LoadSigned part dst base offset) s = with_register s dst (Known (full W64))
  after_op sigs (Store size base offset from) s = record {
    registers = s.registers;
    marks = store_marks s.marks (range_of (known s base)) offset (int.byte_len (size_type size));
    words = store_words s.words (range_of (known s base)) offset (int.byte_len (size_type size))
        (range_of (operand_reg s from));
  }
  after_op sigs (Wide dst value) s = with_register s dst (Known (span value value))
  after_op sigs (Call helper) s = record {
    registers =
        answer_reg (signature_of sigs helper)
        ∷ Uninit ∷ Uninit ∷ Uninit ∷ Uninit ∷ Uninit ∷ drop 6 s.registers;
    marks = s.marks;
    words = s.words;
  }
  after_op sigs op s = s
