-- The sum of a table of bits that rise has each bit at most once, so what is kept and what is
-- computed do not touch, and bits 0 and 6 stay clear.
use Rattle.std.proofs.Common.{◌≡◌, ℕ, zero, suc, ◌+◌, ◌*◌, ◌/◌, ◌%◌, ◌<◌, ◌≤◌, ◌^◌, Bool, true}
use Rattle.std.proofs.Common.{false, cond, nat_lt, nat_le, ◌==◌, ◌&&◌, List, [], ◌∷◌, refl, ap}
use Rattle.std.proofs.Common.{ap₂, arith}
use Rattle.std.proofs.lemmas.Bool.{leb-true, ltb-true}
use Rattle.std.specs.Int.{bit_at}
use Rattle.acdm_record.specs.Fields.{Fields}
use Rattle.acdm_alerts.specs.Conditions.{bit_if, computed_alerts, conditions, kept_bits, sum_from}

-- ---- a sum and its binary digits

-- equal, by recursion, so that it computes where one of both is a successor
abbrev same : ℕ → ℕ → Bool
same zero zero = true
same zero (suc n) = false
same (suc m) zero = false
same (suc m) (suc n) = same m n

same_is : (m n : ℕ) → same m n ≡ true → m ≡ n
same_is zero zero h = refl
same_is zero (suc n) h = absurd (cc)
same_is (suc m) zero h = absurd (cc)
same_is (suc m) (suc n) h = ap (λ (k : ℕ). suc k) (same_is m n h)

-- one more at this bit, where its alert holds
abbrev counted : ℕ → Bool → (ℕ → ℕ) → ℕ → ℕ
counted bit holds f n = cond (same bit n) (cond holds (suc (f n)) (f n)) (f n)

-- how many alerts that hold have a bit
abbrev count : List (ℕ × Bool) → ℕ → ℕ
count [] n = 0
count (alert ∷ more) n = counted alert.0 alert.1 (count more) n

-- the number with these binary digits, the lowest first
abbrev digits : ℕ → (ℕ → ℕ) → ℕ
digits zero f = 0
digits (suc n) f = f 0 + 2 * digits n (λ i. f (suc i))

no_digits : (n : ℕ) → digits n (λ i. 0) ≡ 0
no_digits zero = refl
no_digits (suc n) = omega (arith, no_digits n)

digit_on : (x a b p q : ℕ) → a ≡ p + b → q ≡ 2 * p → x + 2 * a ≡ q + (x + 2 * b)
digit_on x a b p q e f = omega arith

one_more : (n bit : ℕ) (holds : Bool) (f : ℕ → ℕ) → bit < n
    → digits n (counted bit holds f) ≡ bit_if holds bit + digits n f
one_more zero bit holds f inside = absurd (omega (arith, inside))
one_more (suc n) zero true f inside = first (f 0) (digits n (λ i. f (suc i)))
  where
    first : (x b : ℕ) → suc x + 2 * b ≡ 1 + (x + 2 * b)
    first x b = omega arith
one_more (suc n) zero false f inside = no_more (f 0 + 2 * digits n (λ i. f (suc i)))
  where
    no_more : (x : ℕ) → x ≡ 0 + x
    no_more x = omega arith
one_more (suc n) (suc bit) true f inside =
    digit_on (f 0) (digits n (counted bit true (λ i. f (suc i)))) (digits n (λ i. f (suc i)))
    (2 ^ bit) (2 ^ (suc bit))
    (one_more n bit true (λ i. f (suc i)) (omega (arith, inside))) (omega arith)
one_more (suc n) (suc bit) false f inside =
    digit_on (f 0) (digits n (counted bit false (λ i. f (suc i)))) (digits n (λ i. f (suc i))) 0 0
    (one_more n bit false (λ i. f (suc i)) (omega (arith, inside))) (omega arith)

-- the bits of a table rise from this one on, and stay below that one
abbrev rise : ℕ → ℕ → List (ℕ × Bool) → Bool
rise low high [] = true
rise low high (alert ∷ more) =
    nat_le low alert.0 && (nat_lt alert.0 high && rise (suc alert.0) high more)

record Rises (low high : ℕ) (alert : ℕ × Bool) (more : List (ℕ × Bool)) : Type 0 where
  from : low ≤ alert.0
  below : alert.0 < high
  on : rise (suc alert.0) high more ≡ true

rises : (low high : ℕ) (alert : ℕ × Bool) (more : List (ℕ × Bool))
    → rise low high (alert ∷ more) ≡ true → Rises low high alert more
rises low high alert more h = both (nat_le low alert.0) refl (nat_lt alert.0 high) refl h
  where
    both : (a : Bool) → nat_le low alert.0 ≡ a → (b : Bool) → nat_lt alert.0 high ≡ b
        → (a && (b && rise (suc alert.0) high more)) ≡ true → Rises low high alert more
    both true a true b h = record {
      from = leb-true low alert.0 a;
      below = ltb-true alert.0 high b;
      on = h;
    }
    both true a false b h = absurd (cc)
    both false a b' b h = absurd (cc)

-- the sum of a table of bits
sum_is : (word low high : ℕ) (alerts : List (ℕ × Bool)) → rise low high alerts ≡ true
    → sum_from word alerts ≡ word + digits high (count alerts)
sum_is word low high [] h = omega (arith, no_digits high)
sum_is word low high (alert ∷ more) h =
    let r = rises low high alert more h in
    let rest = sum_is (word + bit_if alert.1 alert.0) (suc alert.0) high more r.on in
    let first = one_more high alert.0 alert.1 (count more) r.below in
    omega (arith, rest, first)

-- none of them has a lower bit
none_below : (low high n : ℕ) (alerts : List (ℕ × Bool)) → rise low high alerts ≡ true → n < low
    → count alerts n ≡ 0
none_below low high n [] h less = refl
none_below low high n (alert ∷ more) h less =
    let r = rises low high alert more h in
    let rest = none_below (suc alert.0) high n more r.on (omega (arith, less, r.from)) in
    apart (same alert.0 n) refl rest
  where
    apart : (t : Bool) → same alert.0 n ≡ t → count more n ≡ 0
        → cond t (cond alert.1 (suc (count more n)) (count more n)) (count more n) ≡ 0
    apart true equal rest =
        let r = rises low high alert more h in
        let is : alert.0 ≡ n = same_is alert.0 n equal in
        absurd (omega (arith, is, less, r.from))
    apart false equal rest = rest

-- and two no bit in common
few : (low high n : ℕ) (alerts : List (ℕ × Bool)) → rise low high alerts ≡ true → count alerts n ≤ 1
few low high n [] h = omega arith
few low high n (alert ∷ more) h =
    let r = rises low high alert more h in
    at (same alert.0 n) refl alert.1 (few (suc alert.0) high n more r.on)
  where
    at : (t : Bool) → same alert.0 n ≡ t → (holds : Bool) → count more n ≤ 1
        → cond t (cond holds (suc (count more n)) (count more n)) (count more n) ≤ 1
    at true equal true rest =
        let r = rises low high alert more h in
        let is : alert.0 ≡ n = same_is alert.0 n equal in
        let none = none_below (suc alert.0) high n more r.on (omega (arith, is)) in
        omega (arith, none)
    at true equal false rest = rest
    at false equal holds rest = rest

-- ---- what is computed

-- a word of computed alerts alone: bits 1 to 5, 7 to 13 and 15
pub record IsComputed (x : ℕ) : Type 0 where
  pub plan : ℕ
  pub time : ℕ
  pub fifteenth : ℕ
  pub is_sum : x ≡ 2 * plan + 128 * time + 32768 * fifteenth
  pub plan_is_low : plan ≤ 31
  pub time_is_low : time ≤ 127
  pub is_bit : fifteenth ≤ 1

pub zero-computed : IsComputed 0
zero-computed = record {
  plan = 0;
  time = 0;
  fifteenth = 0;
  is_sum = omega arith;
  plan_is_low = omega arith;
  time_is_low = omega arith;
  is_bit = omega arith;
}

pub conditions-computed : (r : Fields) (moment : ℕ) → IsComputed (conditions r moment)
conditions-computed r moment =
    let alerts = computed_alerts r moment in
    let f : ℕ → ℕ = count alerts in
    let sum : conditions r moment ≡ 0 + digits 16 f = sum_is 0 1 16 alerts refl in
    let each : (n : ℕ) → f n ≤ 1 = λ n. few 1 16 n alerts refl in
    by_digits (conditions r moment) f sum refl refl refl each
  where
    by_digits : (x : ℕ) (f : ℕ → ℕ) → x ≡ 0 + digits 16 f → f 0 ≡ 0 → f 6 ≡ 0 → f 14 ≡ 0
        → ((n : ℕ) → f n ≤ 1) → IsComputed x
    by_digits x f sum zeroth sixth fourteenth each = record {
      plan = f 1 + 2 * f 2 + 4 * f 3 + 8 * f 4 + 16 * f 5;
      time = f 7 + 2 * f 8 + 4 * f 9 + 8 * f 10 + 16 * f 11 + 32 * f 12 + 64 * f 13;
      fifteenth = f 15;
      is_sum = omega (arith, sum, zeroth, sixth, fourteenth);
      plan_is_low = omega (arith, each 1, each 2, each 3, each 4, each 5);
      time_is_low = omega (arith, each 7, each 8, each 9, each 10, each 11, each 12, each 13);
      is_bit = each 15;
    }

-- ---- with what is kept

pub word_fits : (r : Fields) (moment w : ℕ) → w < 4294967296
    → kept_bits w + conditions r moment < 4294967296
word_fits r moment w h =
    let c = conditions-computed r moment in
    sums w c.plan c.time c.fifteenth (conditions r moment) h c.plan_is_low c.time_is_low c.is_bit
    c.is_sum
  where
    sums : (w p s t x : ℕ) → w < 4294967296 → p ≤ 31 → s ≤ 127 → t ≤ 1
        → x ≡ 2 * p + 128 * s + 32768 * t → kept_bits w + x < 4294967296
    sums w p s t x h pl sl tl xe = omega arith

pub word_allowed : (r : Fields) (moment w : ℕ)
    → (bit_at (kept_bits w + conditions r moment) 0 == 0
    && bit_at (kept_bits w + conditions r moment) 6 == 0) ≡ true
word_allowed r moment w =
    let c = conditions-computed r moment in
    sums (w / 65536) (w / 16384 % 2) c.plan c.time c.fifteenth (conditions r moment) c.plan_is_low
    c.is_sum
  where
    zero_zero : (m n : ℕ) → m ≡ 0 → n ≡ 0 → (m == 0 && n == 0) ≡ true
    zero_zero m n a b = ap₂ (λ m n. m == 0 && n == 0) a b

    sums : (u v p s t x : ℕ) → p ≤ 31 → x ≡ 2 * p + 128 * s + 32768 * t
        → (bit_at (u * 65536 + v * 16384 + x) 0 == 0 && bit_at (u * 65536 + v * 16384 + x) 6 == 0)
        ≡ true
    sums u v p s t x pl xe =
        let low : bit_at (u * 65536 + v * 16384 + x) 0 ≡ 0 = omega arith in
        let sixth : bit_at (u * 65536 + v * 16384 + x) 6 ≡ 0 = omega arith in
        zero_zero (bit_at (u * 65536 + v * 16384 + x) 0) (bit_at (u * 65536 + v * 16384 + x) 6) low
        sixth
