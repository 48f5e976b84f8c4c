-- The range of the results holds each result.
use Rattle.std.proofs.Common.{◌≡◌, ℕ, ◌+◌, ◌-◌, ◌*◌, ◌/◌, ◌%◌, ◌^◌, ◌<◌, ◌≤◌, Bool, true, false}
use Rattle.std.proofs.Common.{cond, eqb, ltb, leb, refl, sym, ap, subst, ◌∙◌, arith, min, max, zero}
use Rattle.std.proofs.Common.{suc, ◌&&◌, lit<, lit≤}
use Rattle.std.specs.Prelude.{bit_or, bit_xor, ℤ, pos, negsuc, neg_ℤ, unsigned_abs}
use Rattle.std.specs.Int.{int_shr}
use Rattle.std.specs.Int.RustNames.{int_div, int_rem}
use mir.Val.{sel}
use Rattle.std.proofs.lemmas.Bool.{ltb-false}
use Rattle.std.proofs.lemmas.Bool.{eqb-true, ne_eqb, ltb-true, leb-true}
use Rattle.std.proofs.lemmas.Nat.{and_le_l, and_le_r, le_or_l, le_or_r, or_lt, xor_lt, mul-le}
use Rattle.std.proofs.lemmas.Nat.{le-div, mod_below, pow_pos}
use Rattle.std.proofs.Math.Nat.{div-zero, mod-zero, div-le_self, div-mul-le_self, mod-le}
use Rattle.std.proofs.Math.Nat.{mod-eq_of_lt, le_refl}
use Rattle.bpf_decode.specs.declared.op.Width.{Width}
use Rattle.bpf_decode.specs.declared.op.Width.TheVariants.{W32, W64}
use Rattle.bpf_decode.specs.declared.op.Code.{Code}
use Rattle.bpf_decode.specs.declared.op.Code.TheVariants.{Add, Sub, Mul, Div, SignedDiv, Mod}
use Rattle.bpf_decode.specs.declared.op.Code.TheVariants.{SignedMod, Or, And, Xor, LeftShift}
use Rattle.bpf_decode.specs.declared.op.Code.TheVariants.{RightShift, ArithmeticShift, Mov}
use Rattle.bpf_decode.specs.Words.{bits_of, low, operation, arith_word, signed, unsigned}
use Rattle.bpf_helpers.specs.declared.range.Range.{Range}
use Rattle.bpf_regstate.specs.Ranges.{span, full, modulus, reduced, filled, ranged, arith_range}
use Rattle.bpf_regstate.specs.Holds.{In}
use Rattle.bpf_regstate.specs.Shape.{IsRange}
use Rattle.bpf_regstate.specs.Effect.{arith_result}
use Rattle.bpf_regstate.proofs.Differences.{wrapped_difference, wrapped_numbers}
use Rattle.bpf_regstate.proofs.Ones.{filled_is_least}

pub both : (b c : Bool) → (b && c) ≡ true → (b ≡ true) × (c ≡ true)
both true c e = (refl, e)
both false c e = absurd cc

pub width_fits : (w : Width) → modulus w ≤ 2 ^ 64
width_fits W32 = lit≤ tt
width_fits W64 = lit≤ tt

-- a choice holds what each side holds in its case
pub choice_in : (b : Bool) (r s : Range) (x : ℕ) → (b ≡ true → In r x) → (b ≡ false → In s x)
    → In (cond b r s) x
choice_in true r s x f g = f refl
choice_in false r s x f g = g refl

pub full_in : (w : Width) (x : ℕ) → x < modulus w → In (full w) x
full_in W32 x h = record { low = omega arith; high = omega arith }
full_in W64 x h = record { low = omega arith; high = omega arith }

pub low_below : (w : Width) (x : ℕ) → x % modulus w < modulus w
low_below W32 x = omega arith
low_below W64 x = omega arith

-- the quotient rule
pub wrapped_in : (w : Width) (lo hi z : ℕ) → lo ≤ z → z ≤ hi
    → In (wrapped_numbers w lo hi) (z % modulus w)
wrapped_in W32 lo hi z p q =
    choice_in (eqb (lo / 2 ^ 32) (hi / 2 ^ 32)) (span (lo % 2 ^ 32) (hi % 2 ^ 32)) (full W32)
    (z % 2 ^ 32)
    (λ e. let f = eqb-true _ _ e in record { low = omega arith; high = omega arith })
    (λ e. full_in W32 (z % 2 ^ 32) (low_below W32 z))
wrapped_in W64 lo hi z p q =
    choice_in (eqb (lo / 2 ^ 64) (hi / 2 ^ 64)) (span (lo % 2 ^ 64) (hi % 2 ^ 64)) (full W64)
    (z % 2 ^ 64)
    (λ e. let f = eqb-true _ _ e in record { low = omega arith; high = omega arith })
    (λ e. full_in W64 (z % 2 ^ 64) (low_below W64 z))

pub reduced_in : (w : Width) (r : Range) (x : ℕ) → x < 2 ^ 64 → In r x → In (reduced w r) (low w x)
reduced_in W32 r x h i = wrapped_in W32 r.lo r.hi x i.low i.high
reduced_in W64 r x h i = let e : x % 2 ^ 64 ≡ x = omega arith in rw e i

pub add_in : (w : Width) (a b : Range) (x y : ℕ) → In a x → In b y
    → In (ranged Add w a b) (operation Add w x y)
add_in w a b x y i j = wrapped_in w (a.lo + b.lo) (a.hi + b.hi) (x + y) (omega arith) (omega arith)

pub sub_in : (w : Width) (a b : Range) (x y : ℕ) → b.hi < modulus w → In a x → In b y
    → In (ranged Sub w a b) (operation Sub w x y)
sub_in w a b x y h i j =
    let least : b.lo ≤ modulus w = omega (arith, j.low, j.high) in
    let moved = wrapped_difference w a.lo b.hi a.hi b.lo (omega arith) least in
    let there = wrapped_in w (a.lo + (modulus w - b.hi)) (a.hi + (modulus w - b.lo))
    (x + (modulus w - y)) (omega arith) (omega arith) in
    rw moved there

pub and_in : (w : Width) (a b : Range) (x y : ℕ) → In a x → In b y
    → In (ranged And w a b) (operation And w x y)
and_in w a b x y i j = record {
  low = omega arith;
  high = omega (arith, and_le_l x y, and_le_r x y);
}

low_small : (w : Width) (z : ℕ) → z < modulus w → z % modulus w ≡ z
low_small W32 z h = omega arith
low_small W64 z h = omega arith

pub mul_in : (w : Width) (a b : Range) (x y : ℕ) → In a x → In b y
    → In (ranged Mul w a b) (operation Mul w x y)
mul_in w a b x y i j =
    choice_in (ltb (a.hi * b.hi) (modulus w)) (span (a.lo * b.lo) (a.hi * b.hi)) (full w)
    (x * y % modulus w)
    (λ e.
    let below = ltb-true _ _ e in
    let up : x * y ≤ a.hi * b.hi = mul-le x y a.hi b.hi i.high j.high in
    let down : a.lo * b.lo ≤ x * y = mul-le a.lo b.lo x y i.low j.low in
    let small : x * y % modulus w ≡ x * y = low_small w (x * y) (omega arith) in
    record { low = omega arith; high = omega arith })
    (λ e. full_in w (x * y % modulus w) (low_below w (x * y)))

div_le : (x y u v : ℕ) → x ≤ u → v ≤ y → 0 < v → x / y ≤ u / v
div_le x y u v p q h =
    le-div (x / y) u v h (omega (
      arith,
      mul-le (x / y) v (x / y) y (le_refl (x / y)) q,
      div-mul-le_self x y,
    ))

-- by 0 the quotient is 0 and the remainder the dividend, as among natural numbers
by_zero : (x y : ℕ) → (cond (eqb y 0) 0 (x / y) ≡ x / y) × (cond (eqb y 0) x (x % y) ≡ x % y)
by_zero x zero = (sym (div-zero x), sym (mod-zero x))
by_zero x (suc y) = let other = ne_eqb (suc y) 0 (λ same. absurd (omega arith)) in
    (rw other refl, rw other refl)

choice_number : (m : ℕ) (b : Bool) (x y : ℕ) → x < m → y < m → cond b x y < m
choice_number m true x y p q = p
choice_number m false x y p q = q

some_word : (w : Width) → 0 < modulus w
some_word W32 = lit< tt
some_word W64 = lit< tt

pub div_in : (w : Width) (a b : Range) (x y : ℕ) → In a x → In b y
    → In (ranged Div w a b) (operation Div w x y)
div_in w a b x y i j =
    rw ((by_zero x y).0) (choice_in (leb 1 b.lo) (span (a.lo / b.hi) (a.hi / b.lo)) (span 0 a.hi)
    (x / y)
    (λ e.
    let one = leb-true _ _ e in
    record {
      low = div_le a.lo b.hi x y i.low j.high (omega arith);
      high = div_le x y a.hi b.lo i.high j.low (omega arith);
    })
    (λ e. record { low = omega arith; high = omega (arith, div-le_self x y) }))

pub mod_in : (w : Width) (a b : Range) (x y : ℕ) → In a x → In b y
    → In (ranged Mod w a b) (operation Mod w x y)
mod_in w a b x y i j =
    rw ((by_zero x y).1) (choice_in (leb 1 b.lo)
    (cond (ltb a.hi b.lo) a (span 0 (min a.hi (b.hi - 1)))) (span 0 a.hi) (x % y)
    (λ e.
    let one = leb-true _ _ e in
    choice_in (ltb a.hi b.lo) a (span 0 (min a.hi (b.hi - 1))) (x % y)
    (λ f. let less = ltb-true _ _ f in let same : x % y ≡ x = mod-eq_of_lt (omega arith) in
    rw same i)
    (λ f. record { low = omega arith; high = omega (arith, mod-le x y, mod_below x y) }))
    (λ e. record { low = omega arith; high = omega (arith, mod-le x y) }))

-- a number that is below each power of two above x and y is at most what fills n
filled_bounds : (n x y z : ℕ) → n < 2 ^ 64 → x ≤ n → y ≤ n
    → ((k : ℕ) → x < 2 ^ k → y < 2 ^ k → z < 2 ^ k) → z ≤ filled n
filled_bounds n x y z h p q below =
    let l = filled_is_least n h in
    let positive = pow_pos l.count in
    let b = below l.count (omega (arith, l.are_ones, l.enough, positive))
    (omega (arith, l.are_ones, l.enough, positive)) in
    omega (arith, l.are_ones, b)

pub or_in : (w : Width) (a b : Range) (x y : ℕ) → a.hi < 2 ^ 64 → b.hi < 2 ^ 64 → In a x → In b y
    → In (ranged Or w a b) (operation Or w x y)
or_in w a b x y p q i j = record {
  low = omega (arith, le_or_l x y, le_or_r x y);
  high = filled_bounds (max a.hi b.hi) x y (bit_or x y) (omega arith) (omega arith) (omega arith)
      (λ k l m. or_lt k x y l m);
}

pub xor_in : (w : Width) (a b : Range) (x y : ℕ) → a.hi < 2 ^ 64 → b.hi < 2 ^ 64 → In a x → In b y
    → In (ranged Xor w a b) (operation Xor w x y)
xor_in w a b x y p q i j = record {
  low = omega arith;
  high = filled_bounds (max a.hi b.hi) x y (bit_xor x y) (omega arith) (omega arith) (omega arith)
      (λ k l m. xor_lt k x y l m);
}

-- ---- shifts

pub same_single : (b : Range) (y : ℕ) → eqb b.lo b.hi ≡ true → In b y → b.lo ≡ y
same_single b y e j = let f = eqb-true _ _ e in omega arith

pub shl_in : (w : Width) (a b : Range) (x y : ℕ) → In a x → In b y
    → In (ranged LeftShift w a b) (operation LeftShift w x y)
shl_in w a b x y i j =
    choice_in (eqb b.lo b.hi && ltb (a.hi * 2 ^ (b.lo % bits_of w)) (modulus w))
    (span (a.lo * 2 ^ (b.lo % bits_of w)) (a.hi * 2 ^ (b.lo % bits_of w))) (full w)
    (x * 2 ^ (y % bits_of w) % modulus w)
    (λ e.
    let parts = both (eqb b.lo b.hi) (ltb (a.hi * 2 ^ (b.lo % bits_of w)) (modulus w)) e in
    let same = same_single b y parts.0 j in
    let below = ltb-true _ _ parts.1 in
    let step : (s : ℕ) → a.hi * s < modulus w
    → In (span (a.lo * s) (a.hi * s)) (x * s % modulus w) = λ s lt.
    let up : x * s ≤ a.hi * s = mul-le x s a.hi s i.high (le_refl s) in
    let down : a.lo * s ≤ x * s = mul-le a.lo s x s i.low (le_refl s) in
    let small : x * s % modulus w ≡ x * s = low_small w (x * s) (omega arith) in
    record { low = omega arith; high = omega arith } in
    subst (λ (v : ℕ). In (span (a.lo * 2 ^ (b.lo % bits_of w)) (a.hi * 2 ^ (b.lo % bits_of w)))
    (x * 2 ^ (v % bits_of w) % modulus w)) same (step (2 ^ (b.lo % bits_of w)) below))
    (λ e. full_in w (x * 2 ^ (y % bits_of w) % modulus w) (low_below w (x * 2 ^ (y % bits_of w))))

pub shr_in : (w : Width) (a b : Range) (x y : ℕ) → In a x → In b y
    → In (ranged RightShift w a b) (operation RightShift w x y)
shr_in w a b x y i j =
    choice_in (eqb b.lo b.hi) (span (a.lo / 2 ^ (b.lo % bits_of w)) (a.hi / 2 ^ (b.lo % bits_of w)))
    (span 0 a.hi) (x / 2 ^ (y % bits_of w))
    (λ e.
    let same = same_single b y e j in
    let positive = pow_pos (b.lo % bits_of w) in
    let s = 2 ^ (b.lo % bits_of w) in
    let step : In (span (a.lo / s) (a.hi / s)) (x / s) =
    record {
      low = div_le a.lo s x s i.low (le_refl s) positive;
      high = div_le x s a.hi s i.high (le_refl s) positive;
    } in
    subst (λ (v : ℕ). In (span (a.lo / 2 ^ (b.lo % bits_of w)) (a.hi / 2 ^ (b.lo % bits_of w)))
    (x / 2 ^ (v % bits_of w))) same step)
    (λ e. record { low = omega arith; high = omega (arith, div-le_self x (2 ^ (y % bits_of w))) })

-- ---- signed results

negated_below : (w : Width) (n : ℕ) → unsigned w (neg_ℤ (pos n)) < modulus w
negated_below W32 zero = lit< tt
negated_below W32 (suc n) = omega arith
negated_below W64 zero = lit< tt
negated_below W64 (suc n) = omega arith

negative_below : (w : Width) (n : ℕ) → unsigned w (negsuc n) < modulus w
negative_below W32 n = omega arith
negative_below W64 n = omega arith

-- the size of a signed number
abbrev IsSmall : Width → ℤ → Type 0
IsSmall w (pos n) = n < modulus w
IsSmall w (negsuc n) = suc n < modulus w

choice_small : (w : Width) (b : Bool) (n m : ℕ) → (b ≡ true → n < modulus w)
    → (b ≡ false → suc m < modulus w) → IsSmall w (sel b (pos n) (negsuc m))
choice_small w true n m f g = f refl
choice_small w false n m f g = g refl

signed_small : (w : Width) (x : ℕ) → x < modulus w → IsSmall w (signed w x)
signed_small W32 x h = choice_small W32 (ltb x (2 ^ 31)) x (2 ^ 32 - suc x) (λ e. h)
    (λ e. let f = ltb-false _ _ e in omega arith)
signed_small W64 x h = choice_small W64 (ltb x (2 ^ 63)) x (2 ^ 64 - suc x) (λ e. h)
    (λ e. let f = ltb-false _ _ e in omega arith)

quotient_below : (w : Width) (u v : ℤ) → IsSmall w u → unsigned w (int_div u v) < modulus w
quotient_below w (pos a) (pos b) h = omega (arith, div-le_self a b)
quotient_below w (pos a) (negsuc b) h = negated_below w (a / suc b)
quotient_below w (negsuc a) (pos b) h = negated_below w (suc a / b)
quotient_below w (negsuc a) (negsuc b) h = omega (arith, div-le_self (suc a) (suc b))

remainder_below : (w : Width) (u v : ℤ) → IsSmall w u → unsigned w (int_rem u v) < modulus w
remainder_below w (pos a) v h = omega (arith, mod-le a (unsigned_abs v))
remainder_below w (negsuc a) v h = negated_below w (suc a % unsigned_abs v)

shifted_below : (w : Width) (u : ℤ) (k : ℕ) → IsSmall w u → unsigned w (int_shr u k) < modulus w
shifted_below w (pos a) k h = omega (arith, div-le_self a (2 ^ k))
shifted_below w (negsuc a) k h = negative_below w (a / 2 ^ k)

divided_below : (w : Width) (x y : ℕ) → x < modulus w → operation SignedDiv w x y < modulus w
divided_below w x y h =
    choice_number (modulus w) (eqb y 0) 0 (unsigned w (int_div (signed w x) (signed w y)))
    (some_word w) (quotient_below w (signed w x) (signed w y) (signed_small w x h))

left_below : (w : Width) (x y : ℕ) → x < modulus w → operation SignedMod w x y < modulus w
left_below w x y h =
    choice_number (modulus w) (eqb y 0) x (unsigned w (int_rem (signed w x) (signed w y)))
    h (remainder_below w (signed w x) (signed w y) (signed_small w x h))

-- ---- all operations

-- The results on operands of a width.
pub ranged_in : (code : Code) (w : Width) (a b : Range) (x y : ℕ) → x < modulus w → a.hi < 2 ^ 64
    → b.hi < modulus w → In a x → In b y → In (ranged code w a b) (operation code w x y)
ranged_in Add w a b x y h p q i j = add_in w a b x y i j
ranged_in Sub w a b x y h p q i j = sub_in w a b x y q i j
ranged_in Mul w a b x y h p q i j = mul_in w a b x y i j
ranged_in Div w a b x y h p q i j = div_in w a b x y i j
ranged_in SignedDiv w a b x y h p q i j = full_in w _ (divided_below w x y h)
ranged_in Mod w a b x y h p q i j = mod_in w a b x y i j
ranged_in SignedMod w a b x y h p q i j = full_in w _ (left_below w x y h)
ranged_in Or w a b x y h p q i j = or_in w a b x y p (omega (arith, q, width_fits w)) i j
ranged_in And w a b x y h p q i j = and_in w a b x y i j
ranged_in Xor w a b x y h p q i j = xor_in w a b x y p (omega (arith, q, width_fits w)) i j
ranged_in LeftShift w a b x y h p q i j = shl_in w a b x y i j
ranged_in RightShift w a b x y h p q i j = shr_in w a b x y i j
ranged_in ArithmeticShift w a b x y h p q i j =
    full_in w _ (shifted_below w (signed w x) (y % bits_of w) (signed_small w x h))
ranged_in Mov w a b x y h p q i j = j

choice_high : (b : Bool) (r s : Range) → r.hi < 2 ^ 64 → s.hi < 2 ^ 64 → (cond b r s).hi < 2 ^ 64
choice_high true r s p q = p
choice_high false r s p q = q

pub reduced_high : (w : Width) (r : Range) → r.hi < 2 ^ 64 → (reduced w r).hi < 2 ^ 64
reduced_high W32 r p = choice_high (eqb (r.lo / 2 ^ 32) (r.hi / 2 ^ 32))
    (span (r.lo % 2 ^ 32) (r.hi % 2 ^ 32)) (full W32) (omega arith) (omega arith)
reduced_high W64 r p = p

choice_below : (m : ℕ) (b : Bool) (r s : Range) → r.hi < m → s.hi < m → (cond b r s).hi < m
choice_below m true r s p q = p
choice_below m false r s p q = q

reduced_below : (w : Width) (r : Range) → r.hi < 2 ^ 64 → (reduced w r).hi < modulus w
reduced_below W32 r p = choice_below (2 ^ 32) (eqb (r.lo / 2 ^ 32) (r.hi / 2 ^ 32))
    (span (r.lo % 2 ^ 32) (r.hi % 2 ^ 32)) (full W32) (omega arith) (omega arith)
reduced_below W64 r p = p

-- The range of the results holds the result.
pub arith_in : (code : Code) (w : Width) (a b : Range) (x y : ℕ) → x < 2 ^ 64 → y < 2 ^ 64
    → a.hi < 2 ^ 64 → b.hi < 2 ^ 64 → In a x → In b y
    → In (arith_range code w a b) (arith_word code w x y)
arith_in code w a b x y f g p q i j =
    choice_in (eqb a.lo a.hi && eqb b.lo b.hi)
    (span (arith_word code w a.lo b.lo) (arith_word code w a.lo b.lo))
    (ranged code w (reduced w a) (reduced w b)) (arith_word code w x y)
    (λ e.
    let parts = both (eqb a.lo a.hi) (eqb b.lo b.hi) e in
    let s = same_single a x parts.0 i in
    let t = same_single b y parts.1 j in
    let same : arith_word code w a.lo b.lo ≡ arith_word code w x y =
    ap (λ (v : ℕ). arith_word code w v b.lo) s ∙ ap (λ (v : ℕ). arith_word code w x v) t in
    record { low = omega arith; high = omega arith })
    (λ e. ranged_in code w (reduced w a) (reduced w b) (low w x) (low w y) (low_below w x)
    (reduced_high w a p) (reduced_below w b q) (reduced_in w a x f i) (reduced_in w b y g j))

-- the results are words of the width
pub operation_below : (code : Code) (w : Width) (x y : ℕ) → x < modulus w → y < modulus w
    → operation code w x y < modulus w
operation_below Add w x y p q = low_below w (x + y)
operation_below Sub w x y p q = low_below w (x + (modulus w - y))
operation_below Mul w x y p q = low_below w (x * y)
operation_below Div w x y p q =
    choice_number (modulus w) (eqb y 0) 0 (x / y) (some_word w) (omega (arith, div-le_self x y))
operation_below SignedDiv w x y p q = divided_below w x y p
operation_below Mod w x y p q =
    choice_number (modulus w) (eqb y 0) x (x % y) p (omega (arith, mod-le x y))
operation_below SignedMod w x y p q = left_below w x y p
operation_below Or w x y p q = or_lt (bits_of w) x y p q
operation_below And w x y p q = omega (arith, and_le_l x y)
operation_below Xor w x y p q = xor_lt (bits_of w) x y p q
operation_below LeftShift w x y p q = low_below w (x * 2 ^ (y % bits_of w))
operation_below RightShift w x y p q = omega (arith, div-le_self x (2 ^ (y % bits_of w)))
operation_below ArithmeticShift w x y p q =
    shifted_below w (signed w x) (y % bits_of w) (signed_small w x p)
operation_below Mov w x y p q = q

pub word_below : (code : Code) (w : Width) (x y : ℕ) → arith_word code w x y < 2 ^ 64
word_below code w x y = omega (
  arith,
  width_fits w,
  operation_below code w (low w x) (low w y) (low_below w x) (low_below w y),
)

-- MOV reads its second operand alone.
pub result_in : (code : Code) (w : Width) (a b : Range) (x y : ℕ) → IsRange a → IsRange b → In a x
    → In b y → In (arith_result code w a b) (arith_word code w x y)
result_in Mov w a b x y p q i j =
    let word : y < 2 ^ 64 = omega (arith, j.high, q.words) in
    arith_in Mov w b b y y word word q.words q.words j j
result_in code w a b x y p q i j =
    arith_in code w a b x y (omega (arith, i.high, p.words)) (omega (arith, j.high, q.words))
    p.words q.words i j
