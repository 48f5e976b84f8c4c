-- Numbers as they are written, and read.
use Rattle.std.proofs.Common.{◌≡◌, ℕ, zero, suc, ◌+◌, ◌-◌, ◌*◌, ◌^◌, ◌<◌, ◌≤◌, Bool, true, false}
use Rattle.std.proofs.Common.{cond, List, [], ◌∷◌, length, get_or, Option, Some, None, refl, sym}
use Rattle.std.proofs.Common.{ap, ◌∙◌, arith, rules}
use Rattle.std.specs.Fmt.{decimal}
use Rattle.std.specs.Str.{all_ascii_digits}
use Rattle.std.proofs.lemmas.Fmt.{digits_decimal, digits_value-decimal, length-decimal-le}
use Rattle.std.proofs.lemmas.Fmt.{decimal_nonempty, first_decimal, decimal-digits_value}
use Rattle.std.proofs.lemmas.Fmt.{decimal_digit}
use Rattle.std.proofs.lemmas.Str.Parse.{IsNumeralModel, numerals_by_fold}
use Rattle.std.proofs.lemmas.Grind.{common_steps}
use Rattle.std.proofs.lemmas.Bool.Decides.{nat_tests}
use Rattle.acdm_journal.specs.Reading.{digits_from, natural_of, is_no_natural}
use Rattle.acdm_journal.proofs.Splitting.{Lacks}

abbrev value_from : ℕ → List ℕ → ℕ
value_from n [] = n
value_from n (c ∷ cs) = value_from (n * 10 + (c - 48)) cs

own : IsNumeralModel (λ ds. all_ascii_digits ds ≡ true) (value_from 0)
own = numerals_by_fold _ (search rules) value_from (search rules)

digits_from-digits : (n : ℕ) (ds : List ℕ) → all_ascii_digits ds ≡ true
    → digits_from n ds ≡ Some (value_from n ds)
digits_from-digits n [] h = refl
digits_from-digits n (c ∷ cs) h =
    grind (arith, common_steps, digits_from-digits (n * 10 + (c - 48)) cs)

digits_from-some : (n m : ℕ) (ds : List ℕ) → digits_from n ds ≡ Some m
    → (all_ascii_digits ds ≡ true) × (value_from n ds ≡ m)
digits_from-some n m [] h = (refl, cc)
digits_from-some n m (c ∷ cs) h =
    grind (arith, common_steps, digits_from-some (n * 10 + (c - 48)) m cs)

is_natural : (w : List ℕ) → 0 < length w → length w ≤ 20 → (get_or w 0 0 ≡ 48 → length w ≡ 1)
    → is_no_natural w ≡ false
is_natural w some few one = grind (arith, nat_tests)

natural_is : (w : List ℕ) → is_no_natural w ≡ false
    → (0 < length w) × (length w ≤ 20) × (get_or w 0 0 ≡ 48 → length w ≡ 1)
natural_is w h = grind (arith, nat_tests)

-- no zero stands before other digits
leading : (n : ℕ) → n < 2 ^ 64 → get_or (decimal n) 0 0 ≡ 48 → length (decimal n) ≡ 1
leading zero small h = ap length (decimal_digit 0 (omega arith))
leading (suc k) small h = absurd (omega (arith, first_decimal (suc k) (omega arith) small))

if_not : (b : Bool) (x : Option ℕ) → b ≡ false → cond b None x ≡ x
if_not true x h = absurd (cc)
if_not false x h = refl

if_some : (b : Bool) (x : Option ℕ) (n : ℕ) → cond b None x ≡ Some n
    → (b ≡ false) × (x ≡ Some n)
if_some true x n h = absurd (cc)
if_some false x n h = (refl, h)

-- what a number is written as is read as that number
pub natural_of-decimal : (n : ℕ) → n < 2 ^ 64 → natural_of (decimal n) ≡ Some n
unfolding natural_of
natural_of-decimal n small =
    let few : length (decimal n) ≤ 20 =
    length-decimal-le 20 n (omega arith) (omega arith) small in
    let is : is_no_natural (decimal n) ≡ false =
    is_natural (decimal n) (decimal_nonempty n small) few (leading n small) in
    if_not _ _ is ∙ digits_from-digits 0 (decimal n) (digits_decimal own n small)
    ∙ ap Some (digits_value-decimal own n small)

-- what is read as a number is what that is written as
pub decimal-natural_of : (w : List ℕ) (n : ℕ) → natural_of w ≡ Some n → n < 2 ^ 64
    → w ≡ decimal n
unfolding natural_of
decimal-natural_of w n h small =
    let p = if_some (is_no_natural w) (digits_from 0 w) n h in
    let is = natural_is w p.0 in
    let d = digits_from-some 0 n w p.1 in
    let fits : value_from 0 w < 2 ^ 64 = omega (arith, d.1) in
    sym (decimal-digits_value own w d.0 is.0 is.2 fits) ∙ ap decimal d.1

digits_lack : (ds : List ℕ) → all_ascii_digits ds ≡ true → Lacks ds
digits_lack [] h = tt
digits_lack (c ∷ cs) h = grind (arith, common_steps, digits_lack cs)

pub decimal-lacks : (n : ℕ) → n < 2 ^ 64 → Lacks (decimal n)
decimal-lacks n small = digits_lack (decimal n) (digits_decimal own n small)
