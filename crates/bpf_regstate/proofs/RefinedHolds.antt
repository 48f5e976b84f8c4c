-- What a conditional jump tells along an edge holds the machine that takes it.
use Rattle.std.proofs.Common.{◌≡◌, ℕ, zero, suc, ◌<◌, ◌^◌, Bool, true, false, not, ◌&&◌, cond, List}
use Rattle.std.proofs.Common.{[], ◌∷◌, Option, Some, None, refl, sym, ap, ◌∙◌, arith, get_or, set}
use Rattle.std.specs.Prelude.{ℤ}
use Rattle.std.specs.Int.{cast_unsigned, w32, w64}
use Rattle.std.specs.Int.RustNames.{FitsSigned}
use Rattle.std.proofs.lemmas.Int.{ints}
use Rattle.std.proofs.lemmas.Bool.{ltb-true}
use Rattle.bpf_decode.specs.declared.op.Operand.{Operand}
use Rattle.bpf_decode.specs.declared.op.Operand.TheVariants.{From, Immediate}
use Rattle.bpf_decode.specs.declared.op.Condition.{Condition}
use Rattle.bpf_decode.specs.declared.op.Width.{Width}
use Rattle.bpf_decode.specs.declared.op.Width.TheVariants.{W32, W64}
use Rattle.bpf_decode.specs.Words.{holds, low}
use Rattle.bpf_helpers.specs.declared.range.Range.{Range}
use Rattle.bpf_semantics.specs.Machine.{Machine, register, operand}
use Rattle.bpf_regstate.specs.declared.reg.Reg.{Reg}
use Rattle.bpf_regstate.specs.declared.reg.Reg.TheVariants.{Uninit, Known}
use Rattle.bpf_regstate.specs.Shape.{Shape, IsReg, IsShape, known}
use Rattle.bpf_regstate.specs.Holds.{In, HoldsWord, Holds, HoldsAt, Leaves, IsOperand}
use Rattle.bpf_regstate.specs.Effect.{range_of, with_register}
use Rattle.bpf_regstate.specs.Faults.{is_uninit, operand_uninit}
use Rattle.bpf_regstate.specs.Narrowing.{compared, immediate_word, is_low, narrowed, narrows}
use Rattle.bpf_regstate.specs.Narrowing.{put_both, refined, same_register}
use Rattle.bpf_regstate.proofs.ResultsInRange.{both}
use Rattle.bpf_regstate.proofs.NarrowingHolds.{narrowed_in}

-- ---- registers

-- a register that isn't uninitialised has a word
pub reg_held : (x : Reg) (o : Option ℕ) → IsReg x → is_uninit x ≡ false → HoldsWord x o
    → (v : ℕ) × (o ≡ Some v) × In (range_of x) v × (v < 2 ^ 64)
reg_held Uninit o i e h = absurd cc
reg_held (Known r) None i e h = elim h [ ]
reg_held (Known r) (Some v) i e h = (v, refl, h, omega (arith, h.high, i.words))

-- the word of an operand
pub word_in : (x : Reg) (o : Option ℕ) (v : ℕ) → is_uninit x ≡ false → HoldsWord x o → o ≡ Some v
    → In (range_of x) v
word_in Uninit o v e h is = absurd cc
word_in (Known r) None v e h is = elim h [ ]
word_in (Known r) (Some u) v e h is = let same : u ≡ v = cc in rw same at h

word_below : (x : Reg) (o : Option ℕ) (v : ℕ) → IsReg x → is_uninit x ≡ false → HoldsWord x o
    → o ≡ Some v → v < 2 ^ 64
word_below Uninit o v i e h is = absurd cc
word_below (Known r) o v i e h is = let there = word_in (Known r) o v e h is in
    omega (arith, there.high, i.words)

-- one range of a state changes to another that holds the word
put_at : (xs : List Reg) (d r : ℕ) (x : Reg) (o : Option ℕ) → (r ≡ d → HoldsWord x o)
    → HoldsWord (get_or xs r Uninit) o → HoldsWord (get_or (set xs d x) r Uninit) o
put_at [] d r x o new old = old
put_at (y ∷ xs) zero zero x o new old = new refl
put_at (y ∷ xs) zero (suc r) x o new old = old
put_at (y ∷ xs) (suc d) zero x o new old = old
put_at (y ∷ xs) (suc d) (suc r) x o new old = put_at xs d r x o (λ e. new (ap suc e)) old

pub put_held : (s : Shape) (m : Machine) (d v : ℕ) (r : Range) → Holds s m → register m d ≡ Some v
    → In r v → Holds (with_register s d (Known r)) m
put_held s m d v r h is i = record {
  registers = λ k. put_at s.registers d k (Known r) (register m k) (λ e. rw (e, is) i)
      (h.registers k);
  marks = h.marks;
  words = h.words;
}

-- ---- the two words

low_word : (w : Width) (a : Range) (x : ℕ) → x < 2 ^ 64 → is_low w a ≡ true → In a x → low w x ≡ x
low_word W64 a x h e i = omega arith
low_word W32 a x h e i = let below = ltb-true _ _ e in omega (arith, i.high, below)

low_immediate : (w : Width) (v : ℤ) → FitsSigned w32 v
    → low w (cast_unsigned w64 v) ≡ immediate_word w v
low_immediate W32 v f = omega (arith, ints, f)
low_immediate W64 v f = omega (arith, ints, f)

-- the second word lies in its range
compared_in : (w : Width) (s : Shape) (m : Machine) (from : Operand) (y : ℕ) → IsShape s
    → IsOperand from → Holds s m → operand_uninit s from ≡ false
    → is_low w (compared w s from) ≡ true → operand m from ≡ Some y
    → In (compared w s from) (low w y)
compared_in w s m (From src) y i f h e l is =
    let there = word_in (known s src) (register m src) y e (h.registers src) is in
    let same = low_word w (range_of (known s src)) y
    (word_below (known s src) (register m src) y (i.ranges src) e (h.registers src) is) l there
    in
    rw same there
compared_in w s m (Immediate v) y i f h e l is =
    let same : cast_unsigned w64 v ≡ y = cc in
    let word : low w y ≡ immediate_word w v = ap (low w) (sym same) ∙ low_immediate w v f in
    rw word (record { low = omega arith; high = omega arith })

-- of a register the low part is the word
register_word : (w : Width) (s : Shape) (m : Machine) (from : Operand) (y : ℕ) → IsShape s
    → Holds s m → operand_uninit s from ≡ false
    → is_low w (compared w s from) ≡ true → operand m from ≡ Some y → (src : ℕ) → from ≡ From src
    → low w y ≡ y
register_word w s m (From r) y i h e l is src same =
    low_word w (range_of (known s r)) y
    (word_below (known s r) (register m r) y (i.ranges r) e (h.registers r) is) l
    (word_in (known s r) (register m r) y e (h.registers r) is)
register_word w s m (Immediate v) y i h e l is src same = absurd cc

-- ---- along an edge

put_both_held : (w : Width) (s : Shape) (m : Machine) (dst : ℕ) (from : Operand) (x y : ℕ)
    (o : Option (Range × Range)) → Holds s m
    → register m dst ≡ Some x → operand m from ≡ Some y
    → ((src : ℕ) → from ≡ From src → low w y ≡ y) → low w x ≡ x
    → Leaves o (low w x) (low w y) → HoldsAt (put_both s dst from o) m
put_both_held w s m dst from x y None h p q lows lowx l = elim l [ ]
put_both_held w s m dst (Immediate v) x y (Some r) h p q lows lowx l =
    put_held s m dst x r.0 h p (rw lowx at l.0)
put_both_held w s m dst (From src) x y (Some r) h p q lows lowx l =
    let one = put_held s m dst x r.0 h p (rw lowx at l.0) in
    put_held (with_register s dst (Known r.0)) m src y r.1 one q (rw (lows src refl) at l.1)

choice_held : (b : Bool) (o : Option Shape) (s : Shape) (m : Machine) → (b ≡ true → HoldsAt o m)
    → Holds s m → HoldsAt (cond b o (Some s)) m
choice_held true o s m f h = f refl
choice_held false o s m f h = h

-- The edge is there, and its state holds the machine.
pub refined_holds : (w : Width) (condition : Condition) (dst : ℕ) (from : Operand) (taken : Bool)
    (s : Shape) (m : Machine) (x y : ℕ) → IsShape s → IsOperand from
    → Holds s m → is_uninit (known s dst) ≡ false → operand_uninit s from ≡ false
    → register m dst ≡ Some x → operand m from ≡ Some y
    → holds condition w x y ≡ taken → HoldsAt (refined w condition dst from taken s) m
refined_holds w condition dst from taken s m x y i f h e g p q t =
    choice_held (narrows condition && not (same_register dst from)
    && is_low w (range_of (known s dst)) && is_low w (compared w s from))
    (put_both s dst from (narrowed condition taken (range_of (known s dst)) (compared w s from))) s
    m
    (λ all.
    let outer = both _ _ all in
    let lowa = (both _ _ outer.0).1 in
    let there = word_in (known s dst) (register m dst) x e (h.registers dst) p in
    let lowx = low_word w (range_of (known s dst)) x
    (word_below (known s dst) (register m dst) x (i.ranges dst) e (h.registers dst) p) lowa
    there in
    let second = compared_in w s m from y i f h g outer.1 q in
    let first : In (range_of (known s dst)) (low w x) = rw lowx there in
    put_both_held w s m dst from x y
    (narrowed condition taken (range_of (known s dst)) (compared w s from)) h p q
    (register_word w s m from y i h g outer.1 q) lowx
    (narrowed_in condition taken w (range_of (known s dst)) (compared w s from) (low w x)
    (low w y) first second t))
    h
