-- The text of an instant is that of its day and its minute, and needs no escape.
use Rattle.std.proofs.Common.{◌≡◌, ℕ, ◌+◌, ◌/◌, ◌%◌, ◌<◌, ◌≤◌, true, List, [], ◌∷◌, ◌++◌, codes, decimal, refl, sym, ap, ◌∙◌, arith, append_assoc}
use Rattle.std.proofs.lemmas.Bool.{and_from}
use Rattle.std.proofs.lemmas.Fmt.{decimal_step}
use Rattle.std.proofs.lemmas.List.Folds.{list_all-append}
use Rattle.std.specs.List.{list_all}
use Rattle.json.specs.Print.{escape}
use Rattle.json.specs.Run.{is_plain}
use Rattle.acdm_feed.specs.Days.{begin_text, rest_text}
use Rattle.acdm_feed.specs.Minutes.{clock_text, day_text, minute_text, two_digits}
use Rattle.acdm_feed.proofs.Adding.{plain_escape, two_decimal}

pub plain_digit : (k : ℕ) → k < 10 → is_plain (48 + k) ≡ true
plain_digit k h = grind arith

pub four_decimal : (n : ℕ) → 1000 ≤ n → n < 10000
    → decimal n ≡ (48 + n / 10 / 10 / 10) ∷ (48 + n / 10 / 10 % 10) ∷ (48 + n / 10 % 10) ∷ (48 + n % 10) ∷ []
four_decimal n low high =
    decimal_step n (omega arith) (omega arith)
    ∙ ap (λ l. l ++ (48 + n % 10) ∷ [])
    (decimal_step (n / 10) (omega arith) (omega arith)
    ∙ ap (λ l. l ++ (48 + n / 10 % 10) ∷ []) (two_decimal (n / 10 / 10) (omega arith) (omega arith)))

pub plain_two : (n : ℕ) (rest : List ℕ) → n < 100 → list_all is_plain rest ≡ true
    → list_all is_plain (two_digits n ++ rest) ≡ true
plain_two n rest h more =
    and_from _ _ (plain_digit (n / 10) (omega arith)) (and_from _ _ (plain_digit (n % 10) (omega arith)) more)

pub plain_date : (year month day : ℕ) → 1000 ≤ year → year < 10000 → month < 100 → day < 100
    → list_all is_plain (decimal year ++ (45 ∷ two_digits month ++ (45 ∷ two_digits day))) ≡ true
plain_date year month day low high m d =
    ap (λ l. list_all is_plain (l ++ (45 ∷ two_digits month ++ (45 ∷ two_digits day)))) (four_decimal year low high)
    ∙ plain_two (year / 10 / 10)
    ((48 + year / 10 % 10) ∷ (48 + year % 10) ∷ 45 ∷ (two_digits month ++ (45 ∷ two_digits day))) (omega arith)
    (and_from _ _ (plain_digit (year / 10 % 10) (omega arith))
    (and_from _ _ (plain_digit (year % 10) (omega arith))
    (plain_two month (45 ∷ two_digits day) m (plain_two day [] d refl))))

plain_clock : (minute : ℕ) → minute < 1440 → list_all is_plain (clock_text minute) ≡ true
plain_clock minute h =
    plain_two (minute / 60) (58 ∷ (two_digits (minute % 60) ++ codes ":00Z")) (omega arith)
    (plain_two (minute % 60) (codes ":00Z") (omega arith) refl)

-- what is written of an instant, from one quote to the other
pub instant_text : (t day : ℕ) (begin rest : List ℕ) → day ≡ t / 1440 → begin ≡ begin_text day
    → rest ≡ rest_text (t % 1440) → list_all is_plain (day_text day) ≡ true
    → begin ++ rest ≡ 34 ∷ (escape (minute_text t) ++ 34 ∷ [])
unfolding minute_text
instant_text t day begin rest is b r plain =
    let clock = clock_text (t % 1440) in
    let all : list_all is_plain (day_text day ++ clock) ≡ true =
    list_all-append is_plain (day_text day) clock ∙ and_from _ _ plain (plain_clock (t % 1440) (omega arith)) in
    (λ i. b i ++ r i)
    ∙ ap (λ l. 34 ∷ l) (append_assoc (day_text day) (84 ∷ []) (rest_text (t % 1440))
    ∙ sym (append_assoc (day_text day) clock (34 ∷ [])))
    ∙ ap (λ l. 34 ∷ (l ++ 34 ∷ [])) (sym (plain_escape _ all))
    ∙ ap (λ d. 34 ∷ (escape (day_text d ++ clock) ++ 34 ∷ [])) is
