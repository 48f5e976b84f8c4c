-- A reached word with one more bit.
use Rattle.std.proofs.Common.{◌≡◌, ℕ, ◌*◌, ◌%◌, ◌<◌, ◌≤◌, ◌^◌, true, nat_lt, bit_or, sym, subst}
use Rattle.std.proofs.Common.{arith}
use Rattle.std.proofs.Math.Pow.{pow-lt}
use Rattle.std.proofs.lemmas.Nat.{or_lt, one_shl}
use Rattle.std.proofs.lemmas.Bool.Decides.{nat_tests}

-- the bit that the code shifts
pub shifted : (k : ℕ) → k ≤ 16 → 1 * 2 ^ k % 18446744073709551616 ≡ 2 ^ k
shifted k h = one_shl k 64 (omega arith)

marked_word : (n k : ℕ) → n < 131072 → k ≤ 16 → bit_or n (2 ^ k) < 131072
marked_word n k h l = or_lt 17 n (2 ^ k) h (pow-lt {i = k} {j = 17} (omega arith))

is_lt : (a b : ℕ) → a < b → nat_lt a b ≡ true
is_lt a b h = grind (arith, nat_tests)

lt_of : (a b : ℕ) → nat_lt a b ≡ true → a < b
lt_of a b h = grind (arith, nat_tests)

pub word_allowed : (n k : ℕ) → nat_lt n 131072 ≡ true → k ≤ 16
    → nat_lt (bit_or n (1 * 2 ^ k % 18446744073709551616)) 131072 ≡ true
word_allowed n k h l = is_lt _ 131072
    (subst (λ b. bit_or n b < 131072) (sym (shifted k l)) (marked_word n k (lt_of n 131072 h) l))

pub word_fits : (n k : ℕ) → nat_lt n 131072 ≡ true → k ≤ 16
    → bit_or n (1 * 2 ^ k % 18446744073709551616) < 4294967296
word_fits n k h l =
    let small : bit_or n (1 * 2 ^ k % 18446744073709551616) < 131072 =
    lt_of _ 131072 (word_allowed n k h l) in
    omega arith
