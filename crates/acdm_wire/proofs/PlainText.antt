-- Where the parts of a plain object end, in the words of json's lexer.
use Rattle.std.proofs.Common.{◌≡◌, ℕ, zero, suc, ◌+◌, ◌^◌, ◌-◌, ◌<◌, ◌≤◌, Bool, true, false, not, ◌||◌, ◌==◌, cond, nat_lt}
use Rattle.std.proofs.Common.{List, [], ◌∷◌, length, take, drop, Option, Some, None, position, slice_index, option_and_then, refl, sym, ap, ap₂, ◌∙◌}
use Rattle.std.proofs.Common.{◌⊎◌, inl, inr}
use Rattle.std.proofs.Common.{subst, arith}
use Rattle.std.proofs.lemmas.Bool.Decides.{nat_tests}
use Rattle.std.proofs.lemmas.Bool.{eqb-true, or_cases}
use Rattle.std.proofs.lemmas.List.{length-drop}
use Rattle.std.proofs.lemmas.List.Sums.{prefix_len-le-length}
use Rattle.std.specs.List.{position_or_len, prefix_len}
use Rattle.std.specs.Char.{is_ascii_digit}
use Rattle.json.specs.Token.{Token}
use Rattle.json.specs.Text.{content, plain, prepend}
use Rattle.json.specs.Word.{is_operator, is_space, word, number_before, after_number, after_minus, after_whole}
use Rattle.json.specs.Word.{after_fraction, after_exponent}
use Rattle.json.specs.Lex.{Lexeme, token, colon, quote, backslash, operator, space, other, class, Mode, between, in_word}
use Rattle.json.specs.Lex.{in_string, string_token, lex_byte, lex}
use Rattle.fast_float.specs.Text.{Parts, IsInteger, scan, digits_of}
use Rattle.serde_json.specs.Data.{unsigned}
use Rattle.serde_json.specs.Read.{number_of}
use Rattle.acdm_wire.specs.Plain.{is_stop, is_no_digit, ends_value}

pub space_passes : (bs : List ℕ) → lex between (32 ∷ bs) ≡ lex between bs
unfolding lex
space_passes bs = refl

at : (n : ℕ) (b : Bool) (i : ℕ) → cond b (Some n) None ≡ Some i → n ≡ i
at n true i e = cc
at n false i e = absurd (cc)

-- the place that `position` gives
pub position_is : (p : ℕ → Bool) (bs : List ℕ) (i : ℕ) → position p bs ≡ Some i → position_or_len p bs ≡ i
position_is p bs i e = at (position_or_len p bs) _ i e

-- ---- texts

last_of_three : {A : Type 0} (q b s : Bool) (x y z w : A) → (q || (b || s)) ≡ false → cond q x (cond b y (cond s z w)) ≡ w
last_of_three false false false x y z w e = refl
last_of_three true b s x y z w e = absurd (cc)
last_of_three false true s x y z w e = absurd (cc)
last_of_three false false true x y z w e = absurd (cc)

stays : (q b o s r : Bool) (x : ℕ) (xs : List ℕ) (k : Mode → List Lexeme) → (q || (b || r)) ≡ false
    → lex_byte in_string (cond q quote (cond b backslash (cond o operator (cond s space other)))) x xs k ≡ k in_string
stays false false true s r x xs k e = refl
stays false false false true r x xs k e = refl
stays false false false false r x xs k e = refl
stays true b o s r x xs k e = absurd (cc)
stays false true o s r x xs k e = absurd (cc)

module _ (x : ℕ) (xs : List ℕ) (passes : is_stop x ≡ false) where
  one_more : content plain (x ∷ xs) ≡ prepend (x ∷ []) (content plain xs)
  unfolding content
  one_more = last_of_three (x == 34) (x == 92) (nat_lt x 32) _ _ _ _ passes

  still_in : lex in_string (x ∷ xs) ≡ lex in_string xs
  unfolding lex
  still_in = stays (x == 34) (x == 92) (is_operator x) (is_space x) (nat_lt x 32) x xs _ passes

abbrev Text : List ℕ → ℕ → Type 0
Text bs n = (content plain bs ≡ Some (take n bs)) × (lex in_string bs ≡ lex between (drop (n + 1) bs))

closed : (x : ℕ) (xs : List ℕ) → x ≡ 34 → Text (x ∷ xs) 0
unfolding content lex
closed x xs e = rw e (refl, refl)

prepended : (x : ℕ) (o : Option (List ℕ)) (s : List ℕ) → o ≡ Some s → prepend (x ∷ []) o ≡ Some (x ∷ s)
prepended x o s e = ap (prepend (x ∷ [])) e

next_is : (n : ℕ) → suc n ≡ 1 + n
next_is n = omega arith

behind : (x : ℕ) (xs : List ℕ) (n : ℕ) → drop n xs ≡ drop (suc n) (x ∷ xs)
behind x xs n = refl

behind_next : (x : ℕ) (xs : List ℕ) (n : ℕ) → drop (n + 1) xs ≡ drop (suc n + 1) (x ∷ xs)
behind_next x xs n = let e : suc (n + 1) ≡ suc n + 1 = omega arith in ap (λ k. drop k (x ∷ xs)) e

later : (x : ℕ) (xs : List ℕ) (n : ℕ) → is_stop x ≡ false → Text xs n → Text (x ∷ xs) (1 + n)
later x xs n e text =
    subst (Text (x ∷ xs)) (next_is n) (
      one_more x xs e ∙ prepended x _ _ text.0,
      still_in x xs e ∙ text.1 ∙ ap (lex between) (behind_next x xs n),
    )

index_next : (x : ℕ) (xs : List ℕ) (n : ℕ) → slice_index (x ∷ xs) (1 + n) ≡ slice_index xs n
index_next x xs n = ap (slice_index (x ∷ xs)) (sym (next_is n))

turn : (x : ℕ) (xs : List ℕ) (n : ℕ) (b : Bool) → is_stop x ≡ b → (slice_index xs n ≡ 34 → Text xs n)
    → slice_index (x ∷ xs) (cond (not b) (1 + n) 0) ≡ 34 → Text (x ∷ xs) (cond (not b) (1 + n) 0)
turn x xs n true e more here = closed x xs here
turn x xs n false e more here = later x xs n e (more (sym (index_next x xs n) ∙ here))

-- a text without escapes goes to the first byte that none has, where that is the closing quote
pub text_read : (bs : List ℕ) (n : ℕ) → position_or_len is_stop bs ≡ n → slice_index bs n ≡ 34
    → (content plain bs ≡ Some (take n bs)) × (lex in_string bs ≡ lex between (drop (n + 1) bs))
text_read [] n e here = absurd (cc)
text_read (x ∷ xs) n e here =
    subst (Text (x ∷ xs)) e (turn x xs _ (is_stop x) refl (text_read xs (position_or_len is_stop xs) refl)
    (ap (slice_index (x ∷ xs)) e ∙ here))

-- ---- numbers

abbrev digits : List ℕ → ℕ
digits bs = prefix_len is_ascii_digit bs

twice_not : (b : Bool) → not (not b) ≡ b
twice_not true = refl
twice_not false = refl

-- the first byte that is no digit stands behind the digits
pub same_run : (bs : List ℕ) → position_or_len is_no_digit bs ≡ prefix_len is_ascii_digit bs
same_run [] = refl
same_run (x ∷ xs) = ap₂ (λ b n. cond b (1 + n) 0) (twice_not (is_ascii_digit x)) (same_run xs)

is_digit : (x : ℕ) → is_ascii_digit x ≡ true → (48 ≤ x) × (x ≤ 57)
is_digit x e = grind (arith, nat_tests)

other_class : (x : ℕ) → 48 ≤ x → x ≤ 57 → class x ≡ other
other_class x low high = grind (arith, nat_tests)

digit_class : (x : ℕ) → is_ascii_digit x ≡ true → class x ≡ other
digit_class x e = other_class x (is_digit x e).0 (is_digit x e).1

in_word_still : (x : ℕ) (xs : List ℕ) → is_ascii_digit x ≡ true → lex in_word (x ∷ xs) ≡ lex in_word xs
unfolding lex
in_word_still x xs e = ap (λ c. lex_byte in_word c x xs (λ n. lex n xs)) (digit_class x e)

word_first : (x : ℕ) (xs : List ℕ) → is_ascii_digit x ≡ true → lex between (x ∷ xs) ≡ token (word (x ∷ xs)) ∷ lex in_word xs
unfolding lex
word_first x xs e = ap (λ c. lex_byte between c x xs (λ n. lex n xs)) (digit_class x e)

module _ (P : List ℕ → Type 0) (comma : (r : List ℕ) → P (44 ∷ r)) (brace : (r : List ℕ) → P (125 ∷ r)) where
  by_mark : (x : ℕ) (xs : List ℕ) → ((x == 44) ≡ true) ⊎ ((x == 125) ≡ true) → P (x ∷ xs)
  by_mark x xs (inl e) = subst (λ y. P (y ∷ xs)) (sym (eqb-true x 44 e)) (comma xs)
  by_mark x xs (inr e) = subst (λ y. P (y ∷ xs)) (sym (eqb-true x 125 e)) (brace xs)

  pub at_end : (bs : List ℕ) → ends_value bs ≡ true → P bs
  at_end [] e = absurd (cc)
  at_end (x ∷ xs) e = by_mark x xs (or_cases (x == 44) (x == 125) e)

word_ends : (bs : List ℕ) → ends_value bs ≡ true → lex in_word bs ≡ lex between bs
unfolding lex
word_ends bs e = at_end (λ r. lex in_word r ≡ lex between r) (λ r. refl) (λ r. refl) bs e

abbrev Passed : List ℕ → ℕ → Type 0
Passed bs n = ends_value (drop n bs) ≡ true → lex in_word bs ≡ lex between (drop n bs)

passed_more : (x : ℕ) (xs : List ℕ) (n : ℕ) → is_ascii_digit x ≡ true → Passed xs n → Passed (x ∷ xs) (1 + n)
passed_more x xs n e more =
    subst (Passed (x ∷ xs)) (next_is n) (λ (ends : ends_value (drop n xs) ≡ true). in_word_still x xs e ∙ more ends)

digit_turn : (x : ℕ) (xs : List ℕ) (n : ℕ) (b : Bool) → is_ascii_digit x ≡ b → Passed xs n → Passed (x ∷ xs) (cond b (1 + n) 0)
digit_turn x xs n true e more = passed_more x xs n e more
digit_turn x xs n false e more = λ ends. word_ends (x ∷ xs) ends

digits_pass : (bs : List ℕ) → Passed bs (digits bs)
digits_pass [] = λ e. absurd (cc)
digits_pass (x ∷ xs) = digit_turn x xs (digits xs) (is_ascii_digit x) refl (digits_pass xs)

module _ (x : ℕ) (xs : List ℕ) (low : 48 ≤ x) (high : x ≤ 57) where
  no_literal : word (x ∷ xs) ≡ number_before (x ∷ xs) (after_number (x ∷ xs))
  unfolding word
  no_literal = last_of_three (x == 116) (x == 102) (x == 110) _ _ _ _ (grind (arith, nat_tests))

  no_minus : after_minus (x ∷ xs) ≡ x ∷ xs
  no_minus = grind (arith, nat_tests)

whole : (t : List ℕ) (n : ℕ) (b : Bool) → 0 < n → (b ≡ true → n ≡ 1) → cond b (Some (drop 1 t)) (cond (n == 0) None (Some (drop n t))) ≡ Some (drop n t)
whole t n true some one = ap (λ k. Some (drop k t)) (sym (one refl))
whole t n false some one = grind (arith, nat_tests)

tail : (r : List ℕ) → ends_value r ≡ true → option_and_then after_exponent (after_fraction r) ≡ Some r
tail r e = at_end (λ r. option_and_then after_exponent (after_fraction r) ≡ Some r) (λ r. refl) (λ r. refl) r e

before : (t r : List ℕ) → ends_value r ≡ true → number_before t (Some r) ≡ Token.number (take (length t - length r) t)
before t r e = at_end (λ r. number_before t (Some r) ≡ Token.number (take (length t - length r) t)) (λ r. refl) (λ r. refl) r e

front : (t : List ℕ) (n : ℕ) → n ≤ length t → length t - length (drop n t) ≡ n
front t n h = omega (arith, length-drop n t)

first_digit : (x : ℕ) (xs : List ℕ) (b : Bool) → is_ascii_digit x ≡ b → 0 < cond b (1 + digits xs) 0 → is_ascii_digit x ≡ true
first_digit x xs true e some = e
first_digit x xs false e some = absurd (omega (arith, some))

module _ (x : ℕ) (xs : List ℕ) (some : 0 < digits (x ∷ xs)) (one : (x == 48) ≡ true → digits (x ∷ xs) ≡ 1)
    (ends : ends_value (drop (digits (x ∷ xs)) (x ∷ xs)) ≡ true) where
  is_first : is_ascii_digit x ≡ true
  is_first = first_digit x xs (is_ascii_digit x) refl some

  after_is : after_number (x ∷ xs) ≡ Some (drop (digits (x ∷ xs)) (x ∷ xs))
  unfolding after_number
  after_is =
      let range = is_digit x is_first in
      ap (λ t. option_and_then after_exponent (option_and_then after_fraction (after_whole t))) (no_minus x xs range.0 range.1)
      ∙ ap (λ o. option_and_then after_exponent (option_and_then after_fraction o)) (whole (x ∷ xs) (digits (x ∷ xs)) (x == 48) some one)
      ∙ tail _ ends

  word_is : word (x ∷ xs) ≡ Token.number (take (digits (x ∷ xs)) (x ∷ xs))
  word_is =
      let range = is_digit x is_first in
      no_literal x xs range.0 range.1 ∙ ap (number_before (x ∷ xs)) after_is ∙ before (x ∷ xs) _ ends
      ∙ ap (λ n. Token.number (take n (x ∷ xs))) (front (x ∷ xs) (digits (x ∷ xs)) (prefix_len-le-length is_ascii_digit (x ∷ xs)))

  number_lexed : lex between (x ∷ xs) ≡ token (Token.number (take (digits (x ∷ xs)) (x ∷ xs))) ∷ lex between (drop (digits (x ∷ xs)) (x ∷ xs))
  number_lexed =
      word_first x xs is_first ∙ ap (λ w. token w ∷ lex in_word xs) word_is
      ∙ ap (λ ls. token (Token.number (take (digits (x ∷ xs)) (x ∷ xs))) ∷ ls) (sym (in_word_still x xs is_first) ∙ digits_pass (x ∷ xs) ends)

-- digits are a number where a value ends behind them, and no zero stands before others
pub number_read : (bs : List ℕ) (n : ℕ) → position_or_len is_no_digit bs ≡ n → 0 < n → (slice_index bs 0 ≡ 48 → n ≡ 1)
    → ends_value (drop n bs) ≡ true → lex between bs ≡ token (Token.number (take n bs)) ∷ lex between (drop n bs)
number_read [] n e some one ends = absurd (cc)
number_read (x ∷ xs) n e some one ends =
    let is : digits (x ∷ xs) ≡ n = sym (same_run (x ∷ xs)) ∙ e in
    subst (λ k. lex between (x ∷ xs) ≡ token (Token.number (take k (x ∷ xs))) ∷ lex between (drop k (x ∷ xs))) is
    (number_lexed x xs (subst (λ k. 0 < k) (sym is) some) (λ z. is ∙ one (eqb-true x 48 z))
    (ap (λ k. ends_value (drop k (x ∷ xs))) is ∙ ends))

-- ---- null

null_ends : (r : List ℕ) → ends_value r ≡ true → word (110 ∷ 117 ∷ 108 ∷ 108 ∷ r) ≡ Token.null
unfolding word
null_ends r e = at_end (λ r. word (110 ∷ 117 ∷ 108 ∷ 108 ∷ r) ≡ Token.null) (λ r. refl) (λ r. refl) r e

null_word : (r : List ℕ) → lex between (110 ∷ 117 ∷ 108 ∷ 108 ∷ r) ≡ token (word (110 ∷ 117 ∷ 108 ∷ 108 ∷ r)) ∷ lex in_word r
unfolding lex
null_word r = refl

pub null_read : (r : List ℕ) → ends_value r ≡ true → lex between (110 ∷ 117 ∷ 108 ∷ 108 ∷ r) ≡ token Token.null ∷ lex between r
null_read r e = null_word r ∙ ap₂ (λ w ls. token w ∷ ls) (null_ends r e) (word_ends r e)

-- ---- a quote

string_lexed : (bs : List ℕ) → lex between (34 ∷ bs) ≡ token (string_token (content plain bs)) ∷ lex in_string bs
unfolding lex
string_lexed bs = refl

pub string_read : (bs s rest : List ℕ) → content plain bs ≡ Some s → lex in_string bs ≡ lex between rest
    → lex between (34 ∷ bs) ≡ token (Token.string s) ∷ lex between rest
string_read bs s rest text passed = string_lexed bs ∙ ap₂ (λ o ls. token (string_token o) ∷ ls) text passed

pub at_colon : (bs : List ℕ) → lex between (58 ∷ bs) ≡ colon ∷ lex between bs
unfolding lex
at_colon bs = refl

-- ---- the value of a number

digit_first : (x : ℕ) → is_ascii_digit x ≡ true → (x == 45) ≡ false
digit_first x e = grind (arith, nat_tests)

starts : (x : ℕ) (xs : List ℕ) (n : ℕ) → 0 < n → (x == 45) ≡ false → (slice_index (take n (x ∷ xs)) 0 == 45) ≡ false
starts x xs zero some e = absurd (omega (arith, some))
starts x xs (suc n) some e = e

pub no_sign : (bs : List ℕ) (n : ℕ) → position_or_len is_no_digit bs ≡ n → 0 < n → (slice_index (take n bs) 0 == 45) ≡ false
no_sign [] n e some = absurd (omega (arith, some, e))
no_sign (x ∷ xs) n e some =
    let is : digits (x ∷ xs) ≡ n = sym (same_run (x ∷ xs)) ∙ e in
    starts x xs n some (digit_first x (first_digit x xs (is_ascii_digit x) refl (subst (λ k. 0 < k) (sym is) some)))

value_of : (s : List ℕ) (n : ℕ) → (slice_index s 0 == 45) ≡ false → IsInteger (scan s) → digits_of (scan s) < 2 ^ 64
    → n ≡ digits_of (scan s) → number_of s ≡ Some (unsigned n)
unfolding number_of
value_of s n plus whole small is = grind (arith, nat_tests)

-- a number without a sign, a point and an exponent is the value of its digits, where that has 64 bits
pub unsigned_is : (s : List ℕ) (n : ℕ) (parts : Parts) → (slice_index s 0 == 45) ≡ false → parts ≡ scan s
    → IsInteger parts → digits_of parts < 2 ^ 64 → n ≡ digits_of parts → number_of s ≡ Some (unsigned n)
unsigned_is s n parts plus e whole small is =
    value_of s n plus (subst IsInteger e whole) (subst (λ p. digits_of p < 2 ^ 64) e small) (is ∙ ap digits_of e)
