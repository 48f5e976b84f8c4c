-- Ranges of results (this project's profile).
use Rattle.std.specs.Prelude.{◌≡◌, ℕ, zero, suc, ◌≤◌, ◌+◌, ◌-◌, ◌*◌, ◌/◌, ◌%◌, ◌^◌, Bool, false}
use Rattle.std.specs.Prelude.{◌&&◌, ◌==◌, nat_lt, nat_le, min, max, if◌then◌else◌, ℤ, pos, negsuc}
use Rattle.std.specs.Prelude.{◌-ℤ◌}
use Rattle.bpf_decode.specs.declared.op.Width.{Width}
use Rattle.bpf_decode.specs.declared.op.Width.TheVariants.{W32, W64}
use Rattle.bpf_decode.specs.declared.op.Code.{Code}
use Rattle.bpf_decode.specs.declared.op.Code.TheVariants.{Add, Sub, Mul, Div, SignedDiv, Mod}
use Rattle.bpf_decode.specs.declared.op.Code.TheVariants.{SignedMod, Or, And, Xor, LeftShift}
use Rattle.bpf_decode.specs.declared.op.Code.TheVariants.{RightShift, ArithmeticShift, Mov}
use Rattle.bpf_decode.specs.Words.{bits_of, arith_word}
use Rattle.bpf_helpers.specs.declared.range.Range.{Range}

abbrev pub span : ℕ → ℕ → Range
span lo hi = record { lo = lo; hi = hi }

abbrev pub is_single : Range → Bool
is_single r = r.lo == r.hi

abbrev pub modulus : Width → ℕ
modulus w = 2 ^ bits_of w

-- every word of the width
abbrev pub full : Width → Range
full w = span 0 (modulus w - 1)

-- the low halves of the words of a range
abbrev pub reduced : Width → Range → Range
reduced W64 r = r
reduced W32 r =
    if r.lo / 2 ^ 32 == r.hi / 2 ^ 32 then span (r.lo % 2 ^ 32) (r.hi % 2 ^ 32) else full W32

-- ---- integers modulo the width

-- the quotient by m, rounded down: of -1 - n it is -1 - n / m
abbrev pub quotient : ℤ → ℕ → ℤ
quotient (pos n) m = pos (n / m)
quotient (negsuc n) m = negsuc (n / m)

-- what that quotient leaves, from 0 to m - 1
abbrev pub remainder : ℤ → ℕ → ℕ
remainder (pos n) m = n % m
remainder (negsuc n) m = m - 1 - n % m

abbrev pub are_equal : ℤ → ℤ → Bool
are_equal (pos n) (pos m) = n == m
are_equal (pos n) (negsuc m) = false
are_equal (negsuc n) (pos m) = false
are_equal (negsuc n) (negsuc m) = n == m

-- the integers from lo to hi, modulo the width, where they have one quotient
abbrev pub wrapped : Width → ℤ → ℤ → Range
wrapped w lo hi =
    if are_equal (quotient lo (modulus w)) (quotient hi (modulus w))
    then span (remainder lo (modulus w)) (remainder hi (modulus w)) else full w

-- ---- ones in a row

-- the first of 2 ^ k - 1, 2 ^ (k + 1) - 1 and so on that isn't below n, of so many that are tried
abbrev pub first_ones : ℕ → ℕ → ℕ → ℕ
first_ones zero k n = 2 ^ k - 1
first_ones (suc tries) k n = if nat_le n (2 ^ k - 1) then 2 ^ k - 1 else first_ones tries (suc k) n

-- the least 2 ^ k - 1 that isn't below a word
unfoldable pub filled : ℕ → ℕ
filled n = first_ones 64 0 n

-- these are the least ones in a row that aren't below n
pub record AreLeastOnes (n ones : ℕ) : Type 0 where
  pub count : ℕ
  pub are_ones : ones ≡ 2 ^ count - 1
  pub enough : n ≤ ones
  pub least : (k : ℕ) → n ≤ 2 ^ k - 1 → ones ≤ 2 ^ k - 1

-- ---- results

-- The range of the results of an operation on the words of two ranges, of which one isn't single.
abbrev pub ranged : Code → Width → Range → Range → Range
ranged Add w a b = wrapped w (pos (a.lo + b.lo)) (pos (a.hi + b.hi))
ranged Sub w a b = wrapped w (pos a.lo -ℤ pos b.hi) (pos a.hi -ℤ pos b.lo)
ranged Mul w a b = if nat_lt (a.hi * b.hi) (modulus w) then span (a.lo * b.lo) (a.hi * b.hi) else
    full w
ranged Div w a b = if nat_le 1 b.lo then span (a.lo / b.hi) (a.hi / b.lo) else span 0 a.hi
ranged SignedDiv w a b = full w
ranged Mod w a b =
    if nat_le 1 b.lo then (if nat_lt a.hi b.lo then a else span 0 (min a.hi (b.hi - 1))) else
    span 0 a.hi
ranged SignedMod w a b = full w
ranged Or w a b = span (max a.lo b.lo) (filled (max a.hi b.hi))
ranged And w a b = span 0 (min a.hi b.hi)
ranged Xor w a b = span 0 (filled (max a.hi b.hi))
ranged LeftShift w a b =
    if is_single b && nat_lt (a.hi * 2 ^ (b.lo % bits_of w)) (modulus w)
    then span (a.lo * 2 ^ (b.lo % bits_of w)) (a.hi * 2 ^ (b.lo % bits_of w)) else full w
ranged RightShift w a b =
    if is_single b then span (a.lo / 2 ^ (b.lo % bits_of w)) (a.hi / 2 ^ (b.lo % bits_of w)) else
    span 0 a.hi
ranged ArithmeticShift w a b = full w
ranged Mov w a b = b

-- The range of the results on whole words: that of their low halves where the width is 32, and the
-- machine's own result where both ranges have one word.
abbrev pub arith_range : Code → Width → Range → Range → Range
arith_range code w a b =
    if is_single a && is_single b then
    span (arith_word code w a.lo b.lo) (arith_word code w a.lo b.lo)
    else ranged code w (reduced w a) (reduced w b)
