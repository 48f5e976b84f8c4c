-- What changes a state leaves it well formed.
use Rattle.std.proofs.Common.{◌≡◌, ℕ, zero, suc, ◌≤◌, ◌&&◌, List, [], ◌∷◌, length, drop, refl}
use Rattle.std.proofs.Common.{arith, get_or, length-drop}
use Rattle.bpf_regstate.specs.declared.reg.Reg.{Reg}
use Rattle.bpf_regstate.specs.declared.reg.Reg.TheVariants.{Uninit, Known}
use Rattle.bpf_regstate.specs.Shape.{Shape, IsReg, IsShape}
use Rattle.bpf_regstate.specs.Joins.{zip_with, join_reg, join_registers, joined}

-- ---- joins

pub length-zip_with : {A : Type 0} (f : A → A → A) (xs ys : List A) → length xs ≡ length ys
    → length (zip_with f xs ys) ≡ length xs
length-zip_with f [] ys e = refl
length-zip_with f (x ∷ xs) [] e = absurd (omega arith)
length-zip_with f (x ∷ xs) (y ∷ ys) e = omega (arith, length-zip_with f xs ys (omega arith))

join_reg_is : (x y : Reg) → IsReg x → IsReg y → IsReg (join_reg x y)
join_reg_is Uninit y i j = tt
join_reg_is (Known a) Uninit i j = tt
join_reg_is (Known a) (Known b) i j =
    record {
      ordered = omega (arith, i.ordered, j.ordered);
      words = omega (arith, i.words, j.words);
    }

length-join : (xs ys : List Reg) → length (join_registers xs ys) ≤ length xs
length-join [] ys = omega arith
length-join (x ∷ xs) [] = omega arith
length-join (x ∷ xs) (y ∷ ys) = omega (arith, length-join xs ys)

join_at : (xs ys : List Reg) (r : ℕ) → IsReg (get_or xs r Uninit) → IsReg (get_or ys r Uninit)
    → IsReg (get_or (join_registers xs ys) r Uninit)
join_at [] ys r i j = tt
join_at (x ∷ xs) [] r i j = tt
join_at (x ∷ xs) (y ∷ ys) zero i j = join_reg_is x y i j
join_at (x ∷ xs) (y ∷ ys) (suc r) i j = join_at xs ys r i j

pub join_is_shape : (s t : Shape) → IsShape s → IsShape t → IsShape (joined s t)
join_is_shape s t i j = record {
  registers =
      omega (
        arith,
        length-zip_with join_reg s.registers t.registers
            (omega (arith, i.registers, j.registers)),
        i.registers,
      );
  marks = omega (
    arith,
    length-zip_with (λ a b. a && b) s.marks t.marks
        (omega (arith, i.marks, j.marks)),
    i.marks,
  );
  words = omega (arith, length-join s.words t.words, i.words);
  ranges = λ r. join_at s.registers t.registers r (i.ranges r) (j.ranges r);
  word_ranges = λ w. join_at s.words t.words w (i.word_ranges w) (j.word_ranges w);
}

-- ---- calls

drop_at : (xs : List Reg) (n r : ℕ) → ((k : ℕ) → IsReg (get_or xs k Uninit))
    → IsReg (get_or (drop n xs) r Uninit)
drop_at xs zero r h = h r
drop_at [] (suc n) r h = tt
drop_at (x ∷ xs) (suc n) r h = drop_at xs n r (λ k. h (suc k))

call_at : (x : Reg) (xs : List Reg) (r : ℕ) → IsReg x → ((k : ℕ) → IsReg (get_or xs k Uninit))
    → IsReg (get_or (x ∷ Uninit ∷ Uninit ∷ Uninit ∷ Uninit ∷ Uninit ∷ drop 6 xs) r Uninit)
call_at x xs zero i h = i
call_at x xs (suc zero) i h = tt
call_at x xs (suc (suc zero)) i h = tt
call_at x xs (suc (suc (suc zero))) i h = tt
call_at x xs (suc (suc (suc (suc zero)))) i h = tt
call_at x xs (suc (suc (suc (suc (suc zero))))) i h = tt
call_at x xs (suc (suc (suc (suc (suc (suc r)))))) i h = drop_at xs 6 r h

pub call_is_shape : (s : Shape) (x : Reg) → IsReg x → IsShape s
    → IsShape (record {
      registers = x ∷ Uninit ∷ Uninit ∷ Uninit ∷ Uninit ∷ Uninit
          ∷ drop 6 s.registers;
      marks = s.marks;
      words = s.words;
    })
call_is_shape s x known i = record {
  registers = omega (arith, length-drop 6 s.registers, i.registers);
  marks = i.marks;
  words = i.words;
  ranges = λ r. call_at x s.registers r known i.ranges;
  word_ranges = i.word_ranges;
}
