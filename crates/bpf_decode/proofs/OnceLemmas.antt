-- Bytes encode one program, or have one first fault, and not both.
use Rattle.std.proofs.Common.{◌≡◌, ℕ, ◌+◌, ◌*◌, ◌<◌, List, [], ◌∷◌, ◌++◌, length, drop, refl, sym}
use Rattle.std.proofs.Common.{ap, subst, ◌∙◌, append_assoc, arith, length-append, ◌⊎◌, inl, inr}
use Rattle.std.specs.Prelude.{Result, Ok, Err, IfOk, IfErr}
use Rattle.std.proofs.lemmas.List.{append-nil, drop_at}
use Rattle.std.proofs.lemmas.Grind.{flat_map-append}
use Rattle.bpf_decode.specs.declared.insn.Insn.{Insn}
use Rattle.bpf_decode.specs.declared.op.Op.{Op}
use Rattle.bpf_decode.specs.declared.op.Op.TheVariants.{Wide, Tail, Call}
use Rattle.bpf_decode.specs.Slots.{fields}
use Rattle.bpf_decode.specs.Encoding.{slot_of, HasRow, HasRegisters, IsInstruction, IsTailSlot}
use Rattle.bpf_decode.specs.Encoding.{IsWideSlot, AreWhole, Encodes, RowFault, opcode, field}
use Rattle.bpf_decode.specs.Encoding.{register, StartFault, row, cut, tail, FirstFault, too_long}
use Rattle.bpf_decode.specs.Encoding.{no_slots, behind, encoding, encoding_of}
use Rattle.bpf_decode.specs.declared.fault.DecodeError.{DecodeError}
use Rattle.bpf_decode.specs.declared.fault.DecodeError.TheVariants.{Refused, Memory}
use Rattle.bpf_decode.specs.Faults.{code_of}
use Rattle.bpf_decode.specs.Decoding.{parts_of, Refuses, AnswersProgram, AnswersFault}
use Rattle.bpf_decode.proofs.WholeLemmas.{encoding-parts_of, length-encoding_of, encoding_length}
use Rattle.bpf_decode.proofs.ReadLemmas.{read_slot, told, read_slot_of, read_op}
use Rattle.bpf_decode.proofs.ReadLemmas.{read_op-encoding_of, fields-encoding_of, fields-tail}

-- ---- the first of whole instructions

abbrev IsSplit : List Op → Type 0
IsSplit ops = (ops ≡ []) ⊎ ((op : Op) × (others : List Op) × IsInstruction op × AreWhole others
    × (ops ≡ parts_of op ++ others))

split : (ops : List Op) → AreWhole ops → IsSplit ops
split [] w = inl refl
split (Wide dst value ∷ []) w = absurd cc
split (Wide dst value ∷ Tail ∷ ops) w = inr (Wide dst value, ops, w.1.0, (w.0, w.1.1.1), refl)
split (Wide dst value ∷ op ∷ ops) w = absurd cc
split (Tail ∷ ops) w = absurd cc
split (op ∷ ops) w = inr (op, ops, w.1.0, (w.0, w.1.1), refl)

encoding-first : (op : Op) (others : List Op) → IsInstruction op
    → encoding (parts_of op ++ others) ≡ encoding_of op ++ encoding others
encoding-first op others is = flat_map-append encoding_of (parts_of op) others
    ∙ ap (λ (x : List ℕ). x ++ encoding others) (encoding-parts_of op is)

-- two instructions at the front of the same bytes are one
same_first : (a b : Op) (x y : List ℕ) → IsInstruction a → IsInstruction b
    → encoding_of a ++ x ≡ encoding_of b ++ y → a ≡ b
same_first a b x y p q e = sym (read_op-encoding_of a x p) ∙ ap read_op e
    ∙ read_op-encoding_of b y q

same_rest : (a : Op) (x y : List ℕ) → encoding_of a ++ x ≡ encoding_of a ++ y → x ≡ y
same_rest a x y e =
    let n = length (encoding_of a) in
    sym (drop_at (encoding_of a) x n refl) ∙ ap (drop n) e ∙ drop_at (encoding_of a) y n refl

-- ---- one of two fronts of the same bytes begins with the other

abbrev Compared : List Op → List Op → List ℕ → List ℕ → Type 0
Compared f g x y =
    ((h : List Op) × AreWhole h × (g ≡ f ++ h) × (x ≡ encoding h ++ y)) ⊎ ((h : List Op)
    × AreWhole h × (f ≡ g ++ h) × (y ≡ encoding h ++ x))

Compared-first : (op : Op) (f g : List Op) (x y : List ℕ) → Compared f g x y
    → Compared (parts_of op ++ f) (parts_of op ++ g) x y
Compared-first op f g x y (inl (h, w, e, r)) =
    inl (h, w, ap (λ (z : List Op). parts_of op ++ z) e ∙ sym (append_assoc (parts_of op) f h), r)
Compared-first op f g x y (inr (h, w, e, r)) =
    inr (h, w, ap (λ (z : List Op). parts_of op ++ z) e ∙ sym (append_assoc (parts_of op) g h), r)

compare_first : (op : Op) (f g : List Op) (x y : List ℕ) → IsInstruction op
    → AreWhole (parts_of op ++ f) → IsSplit g → encoding (parts_of op ++ f) ++ x ≡ encoding g ++ y
    → ((others : List Op) → AreWhole others → encoding f ++ x ≡ encoding others ++ y
    → Compared f others x y) → Compared (parts_of op ++ f) g x y
compare_first op f g x y is w (inl none) e goes_on =
    inr (
      parts_of op ++ f,
      w,
      ap (λ (z : List Op). z ++ (parts_of op ++ f)) (sym none),
      ap (λ (z : List Op). encoding z ++ y) (sym none) ∙ sym e,
    )
compare_first op f g x y is w (inr (op', others, is', w', g-is)) e goes_on =
    let mine : encoding (parts_of op ++ f) ++ x ≡ encoding_of op ++ (encoding f ++ x) =
    ap (λ (z : List ℕ). z ++ x) (encoding-first op f is)
    ∙ append_assoc (encoding_of op) (encoding f) x in
    let yours : encoding g ++ y ≡ encoding_of op' ++ (encoding others ++ y) =
    ap (λ (z : List Op). encoding z ++ y) g-is
    ∙ ap (λ (z : List ℕ). z ++ y) (encoding-first op' others is')
    ∙ append_assoc (encoding_of op') (encoding others) y in
    let both : encoding_of op ++ (encoding f ++ x) ≡ encoding_of op' ++ (encoding others ++ y) =
    sym mine ∙ e ∙ yours in
    let one : op ≡ op' = same_first op op' (encoding f ++ x) (encoding others ++ y) is is' both in
    let rest : encoding f ++ x ≡ encoding others ++ y =
    same_rest op (encoding f ++ x) (encoding others ++ y) (both
    ∙ ap (λ (o : Op). encoding_of o ++ (encoding others ++ y)) (sym one)) in
    subst (λ (z : List Op). Compared (parts_of op ++ f) z x y)
    (ap (λ (o : Op). parts_of o ++ others) one ∙ sym g-is)
    (Compared-first op f others x y (goes_on others w' rest))

compare : (f g : List Op) (x y : List ℕ) → AreWhole f → AreWhole g
    → encoding f ++ x ≡ encoding g ++ y → Compared f g x y
compare [] g x y w v e = inl (g, v, refl, e)
compare (Wide dst value ∷ []) g x y w v e = absurd cc
compare (Wide dst value ∷ Tail ∷ f) g x y w v e =
    compare_first (Wide dst value) f g x y w.1.0 w (split g v) e
    (λ others u r. compare f others x y (w.0, w.1.1.1) u r)
compare (Wide dst value ∷ op ∷ f) g x y w v e = absurd cc
compare (Tail ∷ f) g x y w v e = absurd cc
compare (op ∷ f) g x y w v e =
    compare_first op f g x y w.1.0 w (split g v) e
    (λ others u r. compare f others x y (w.0, w.1.1) u r)

-- ---- the fault of a slot is one

-- the fields tell the registers
same_registers : (a b : Op) → HasRow a → HasRow b → slot_of a ≡ slot_of b → HasRegisters a
    → HasRegisters b
same_registers a b p q e h =
    let same : told a ≡ told b = sym (read_slot_of a p) ∙ ap read_slot e ∙ read_slot_of b q in
    told_registers b (subst HasRegisters same (registers_told a h))
  where
    registers_told : (o : Op) → HasRegisters o → HasRegisters (told o)
    registers_told (Wide dst value) h = h
    registers_told (Call helper) h = h
    registers_told o h = h

    told_registers : (o : Op) → HasRegisters (told o) → HasRegisters o
    told_registers (Wide dst value) h = h
    told_registers (Call helper) h = h
    told_registers o h = h

-- a slot that an instruction fits has no fault
no_row_fault : (op : Op) (i : Insn) (code : ℕ) → HasRow op → HasRegisters op → slot_of op ≡ i
    → RowFault i code → ⊥
no_row_fault op i code p h e (opcode none) = none op p (ap (λ (j : Insn). j.opc) e)
no_row_fault op i code p h e (field other q same none) = none op p e
no_row_fault op i code p h e (register other q same bad) =
    bad (same_registers op other p q (e ∙ sym same) h)

one_row_fault : (i : Insn) (c d : ℕ) → RowFault i c → RowFault i d → c ≡ d
one_row_fault i c d (opcode none) (opcode none') = refl
one_row_fault i c d (opcode none) (field op p same none') = absurd (none op p same)
one_row_fault i c d (opcode none) (register op p same bad) =
    absurd (none op p (ap (λ (j : Insn). j.opc) same))
one_row_fault i c d (field op p same none) (opcode none') = absurd (none' op p same)
one_row_fault i c d (field op p same none) (field op' p' same' none') = refl
one_row_fault i c d (field op p same none) (register op' p' same' bad) = absurd (none op' p' same')
one_row_fault i c d (register op p same bad) (opcode none) =
    absurd (none op p (ap (λ (j : Insn). j.opc) same))
one_row_fault i c d (register op p same bad) (field op' p' same' none) = absurd (none op p same)
one_row_fault i c d (register op p same bad) (register op' p' same' bad') = refl

wide_has_no_fault : (i : Insn) (code : ℕ) → IsWideSlot i → RowFault i code → ⊥
wide_has_no_fault i code (dst, value, lt, e) f = no_row_fault (Wide dst value) i code tt lt e f

-- ---- what is wrong where an instruction should begin

is_wide_op : (op : Op) → HasRow op → (dst value : ℕ) → slot_of (Wide dst value) ≡ slot_of op
    → (v : ℕ) × (op ≡ Wide dst v)
is_wide_op op p dst value e = wide_told op (sym (read_slot_of (Wide dst value) tt) ∙ ap read_slot e
    ∙ read_slot_of op p)
  where
    wide_told : (o : Op) → told (Wide dst value) ≡ told o → (v : ℕ) × (o ≡ Wide dst v)
    wide_told (Wide d v) f = (v, ap (λ (x : ℕ). Wide x v) (sym (wide_dst f)))
      where
        wide_dst : told (Wide dst value) ≡ told (Wide d v) → dst ≡ d
        wide_dst g = cc
    wide_told (Call helper) f = absurd cc
    wide_told o f = absurd cc

starts_well : (op : Op) (bytes after : List ℕ) (code more : ℕ) → IsInstruction op
    → bytes ≡ encoding_of op ++ after → StartFault bytes code more → ⊥
starts_well op bytes after code more is e (row long f) =
    no_row_fault op (fields bytes) code is.0 is.1
    (sym (ap fields e ∙ fields-encoding_of op after is)) f
starts_well op bytes after code more is e (cut len (dst, value, lt, w)) =
    let wide = is_wide_op op is.0 dst value (w ∙ ap fields e ∙ fields-encoding_of op after is) in
    let len' : length bytes ≡ length (encoding_of op) + length after = ap length e
    ∙ length-append (encoding_of op) after in
    let two : length (encoding_of op) ≡ 16 =
    length-encoding_of op is ∙ ap (λ (o : Op). 8 * length (parts_of o)) wide.1 in
    omega arith
starts_well op bytes after code more is e (tail long (dst, value, lt, w) none) =
    let wide = is_wide_op op is.0 dst value (w ∙ ap fields e ∙ fields-encoding_of op after is) in
    let is' : IsInstruction (Wide dst wide.0) = subst IsInstruction wide.1 is in
    let second = ap (λ (x : List ℕ). fields (drop 8 x)) (e
    ∙ ap (λ (o : Op). encoding_of o ++ after) wide.1) ∙ fields-tail dst wide.0 after is'.2 in
    none (subst IsTailSlot (sym second) (refl, refl, refl, refl))

one_start_fault : (bytes : List ℕ) (c d m n : ℕ) → StartFault bytes c m → StartFault bytes d n
    → (c ≡ d) × (m ≡ n)
one_start_fault bytes c d m n (row long f) (row long' g) =
    (one_row_fault (fields bytes) c d f g, refl)
one_start_fault bytes c d m n (row long f) (cut len w) =
    absurd (wide_has_no_fault (fields bytes) c w f)
one_start_fault bytes c d m n (row long f) (tail long' w none) =
    absurd (wide_has_no_fault (fields bytes) c w f)
one_start_fault bytes c d m n (cut len w) (row long f) =
    absurd (wide_has_no_fault (fields bytes) d w f)
one_start_fault bytes c d m n (cut len w) (cut len' w') = (refl, refl)
one_start_fault bytes c d m n (cut len w) (tail long w' none) = absurd (omega arith)
one_start_fault bytes c d m n (tail long w none) (row long' f) =
    absurd (wide_has_no_fault (fields bytes) d w f)
one_start_fault bytes c d m n (tail long w none) (cut len w') = absurd (omega arith)
one_start_fault bytes c d m n (tail long w none) (tail long' w' none') = (refl, refl)

some_bytes : (bytes : List ℕ) (code more : ℕ) → StartFault bytes code more → 0 < length bytes
some_bytes bytes code more (row long f) = omega arith
some_bytes bytes code more (cut len w) = omega arith
some_bytes bytes code more (tail long w none) = omega arith

-- ---- one program

none_left : (h : List Op) → AreWhole h → length (encoding h) ≡ 0 → h ≡ []
none_left h w e =
    elim (split h w) [
      | inl none ↦ none
      | inr (op, others, is, w', h-is) ↦
          let first : length (encoding h) ≡ length (encoding_of op) + length (encoding others) =
          ap (λ (z : List Op). length (encoding z)) h-is
          ∙ ap length (encoding-first op others is)
          ∙ length-append (encoding_of op) (encoding others) in
          let some : 0 < length (encoding_of op) = rw (length-encoding_of op is) (parts_some op) in
          absurd (omega arith)
    ]
  where
    parts_some : (op : Op) → 0 < 8 * length (parts_of op)
    parts_some (Wide dst value) = omega arith
    parts_some op = omega arith

one_by_fronts : (f g : List Op) → Compared f g [] [] → f ≡ g
one_by_fronts f g (inl (h, w, e, r)) =
    sym (e ∙ ap (λ (z : List Op). f ++ z)
    (none_left h w (sym (ap length (r ∙ append-nil (encoding h))))) ∙ append-nil f)
one_by_fronts f g (inr (h, w, e, r)) = e
    ∙ ap (λ (z : List Op). g ++ z) (none_left h w (sym (ap length (r ∙ append-nil (encoding h)))))
    ∙ append-nil g

pub one_program : (bytes : List ℕ) (f g : List Op) → Encodes bytes f → Encodes bytes g → f ≡ g
one_program bytes f g p q =
    one_by_fronts f g (compare f g [] [] p.program.whole q.program.whole
    (append-nil (encoding f) ∙ sym p.bytes_are ∙ q.bytes_are ∙ sym (append-nil (encoding g))))

-- ---- a program or a fault

-- no fault stands where whole instructions begin
not_at_whole : (h : List Op) (x rest : List ℕ) (code more : ℕ) → AreWhole h → 0 < length h
    → rest ≡ encoding h ++ x → StartFault rest code more → ⊥
not_at_whole h x rest code more w some e f =
    elim (split h w) [
      | inl none ↦ absurd (omega (arith, ap length none))
      | inr (op, others, is, w', h-is) ↦
          starts_well op rest (encoding others ++ x) code more is
          (e ∙ ap (λ (z : List Op). encoding z ++ x) h-is
          ∙ ap (λ (z : List ℕ). z ++ x) (encoding-first op others is)
          ∙ append_assoc (encoding_of op) (encoding others) x) f
    ]

some_or_none : (h : List Op) → (h ≡ []) ⊎ (0 < length h)
some_or_none [] = inl refl
some_or_none (op ∷ ops) = inr (omega arith)

no_fault_by_fronts : (f front : List Op) (rest : List ℕ) (code more : ℕ) → StartFault rest code more
    → Compared f front [] rest → ⊥
no_fault_by_fronts f front rest code more s (inl (h, w, e, r)) =
    let sizes : 0 ≡ length (encoding h) + length rest = ap length r
    ∙ length-append (encoding h) rest in
    omega (arith, some_bytes rest code more s)
no_fault_by_fronts f front rest code more s (inr (h, w, e, r)) =
    elim (some_or_none h) [
      | inl none ↦
          let empty : rest ≡ [] = r ∙ ap (λ (z : List Op). encoding z ++ []) none in
          omega (arith, ap length empty, some_bytes rest code more s)
      | inr some ↦ not_at_whole h [] rest code more w some r s
    ]

pub no_fault : (bytes : List ℕ) (f : List Op) (code slot : ℕ) → Encodes bytes f
    → FirstFault bytes code slot → ⊥
no_fault bytes f code slot p (too_long many) =
    omega (arith, p.program.few, encoding_length f p.program.whole, ap length p.bytes_are)
no_fault bytes f code slot p (no_slots few none) =
    none (
      omega (arith, p.program.some, encoding_length f p.program.whole, ap length p.bytes_are),
      omega (arith, encoding_length f p.program.whole, ap length p.bytes_are),
    )
no_fault bytes f code slot p (behind front rest few slots w e s) =
    no_fault_by_fronts f front rest _ _ s
    (compare f front [] rest p.program.whole w (append-nil (encoding f) ∙ sym p.bytes_are ∙ e))

-- ---- one first fault

one_fault_by_fronts : (f g : List Op) (x y : List ℕ) (c d m n : ℕ) → StartFault x c m
    → StartFault y d n → Compared f g x y → (c ≡ d) × (length f + m ≡ length g + n)
one_fault_by_fronts f g x y c d m n s t (inl (h, w, e, r)) =
    elim (some_or_none h) [
      | inl none ↦
          let same : x ≡ y = r ∙ ap (λ (z : List Op). encoding z ++ y) none in
          let one = one_start_fault x c d m n s
          (subst (λ (z : List ℕ). StartFault z d n) (sym same) t) in (
            one.0,
            omega (
              arith,
              one.1,
              ap length (e ∙ ap (λ (z : List Op). f ++ z) none
                  ∙ append-nil f),
            ),
          )
      | inr some ↦ absurd (not_at_whole h y x c m w some r s)
    ]
one_fault_by_fronts f g x y c d m n s t (inr (h, w, e, r)) =
    elim (some_or_none h) [
      | inl none ↦
          let same : y ≡ x = r ∙ ap (λ (z : List Op). encoding z ++ x) none in
          let one = one_start_fault x c d m n s (subst (λ (z : List ℕ). StartFault z d n) same t) in (
            one.0,
            omega (
              arith,
              one.1,
              ap length (e ∙ ap (λ (z : List Op). g ++ z) none
                  ∙ append-nil g),
            ),
          )
      | inr some ↦ absurd (not_at_whole h x y d n w some r t)
    ]

pub one_first_fault : (bytes : List ℕ) (c d s t : ℕ) → FirstFault bytes c s → FirstFault bytes d t
    → (c ≡ d) × (s ≡ t)
one_first_fault bytes c d s t (too_long many) (too_long many') = (refl, refl)
one_first_fault bytes c d s t (too_long many) (no_slots few none) = absurd (omega arith)
one_first_fault bytes c d s t (too_long many) (behind front rest few slots w e f) =
    absurd (omega arith)
one_first_fault bytes c d s t (no_slots few none) (too_long many) = absurd (omega arith)
one_first_fault bytes c d s t (no_slots few none) (no_slots few' none') = (refl, refl)
one_first_fault bytes c d s t (no_slots few none) (behind front rest few' slots w e f) =
    absurd (none slots)
one_first_fault bytes c d s t (behind front rest few slots w e f) (too_long many) =
    absurd (omega arith)
one_first_fault bytes c d s t (behind front rest few slots w e f) (no_slots few' none) =
    absurd (none slots)
one_first_fault bytes c d s t (behind front rest few slots w e f)
    (behind front' rest' few' slots' w' e' f') =
    one_fault_by_fronts front front' rest rest' _ _ _ _ f f'
    (compare front front' rest rest' w w' (sym e ∙ e'))

-- ---- so what is answered is the only answer

pub only_program : (bytes : List ℕ) (ops : List Op) (r : Result (List Op) DecodeError)
    → IfOk r (λ p. Encodes bytes p) → IfErr r (λ e. Refuses bytes e)
    → Encodes bytes ops → AnswersProgram ops r
only_program bytes ops (Ok found) right wrong p = one_program bytes found ops right p
only_program bytes ops (Err (Refused fault slot)) right wrong p =
    no_fault bytes ops (code_of fault) slot p wrong
only_program bytes ops (Err Memory) right wrong p = tt

pub only_fault : (bytes : List ℕ) (code slot : ℕ) (r : Result (List Op) DecodeError)
    → IfOk r (λ p. Encodes bytes p) → IfErr r (λ e. Refuses bytes e)
    → FirstFault bytes code slot → AnswersFault code slot r
only_fault bytes code slot (Ok found) right wrong f = no_fault bytes found code slot right f
only_fault bytes code slot (Err (Refused fault at)) right wrong f =
    one_first_fault bytes (code_of fault) code at slot wrong f
only_fault bytes code slot (Err Memory) right wrong f = tt
