-- Marks as the bits of words: one is set, words are joined, those of a part are tested.
use Rattle.std.proofs.Common.{◌≡◌, ◌≢◌, ℕ, zero, suc, ◌+◌, ◌-◌, ◌*◌, ◌/◌, ◌%◌, ◌^◌, ◌<◌, ◌≤◌, min}
use Rattle.std.proofs.Common.{Bool, true, false, cond, ◌==◌, ◌&&◌, List, [], ◌∷◌, ◌++◌, length}
use Rattle.std.proofs.Common.{get_or, set, take, drop, replicate, refl, sym, ap, ◌∙◌, arith}
use Rattle.std.proofs.Common.{eqb-true, w64, bit_and, bit_or, inl, inr}
use Rattle.std.specs.Int.{bit_at}
use Rattle.std.specs.List.{list_all}
use Rattle.std.proofs.lemmas.Bool.{eqb-false, cases_lt}
use Rattle.std.proofs.lemmas.List.{ext_get_or, get_or-replicate, get_or-set_same, get_or-set_other}
use Rattle.std.proofs.lemmas.List.{get_or-take, get_or-drop, length-set, length-replicate}
use Rattle.std.proofs.lemmas.List.{length-drop, length-take-le, take_all}
use Rattle.std.proofs.lemmas.List.Edits.{fill_from_more, paste_all, paste_none}
use Rattle.std.proofs.lemmas.List.Folds.{list_all_at, list_all_more}
use Rattle.std.proofs.lemmas.List.FromFn.{get_or-map-range_with_len, length-map-range_with_len}
use Rattle.std.proofs.lemmas.Nat.Bits.{bit_at-zero, bit_at-lt, bit_at_and, bit_at_set_same}
use Rattle.std.proofs.lemmas.Nat.Bits.{bit_at_set_other}
use Rattle.std.proofs.Math.Seq.{paste}
use Rattle.bpf_regstate.specs.Joins.{join_marks, zip_with}
use Rattle.bpf_regstate.specs.Marks.{is_marked, marks_of}
use Rattle.bpf_regstate.proofs.Shapes.{length-zip_with}

pub length-marks : (words : List ℕ) → length (marks_of words) ≡ 512
unfolding marks_of
length-marks words = length-map-range_with_len (is_marked words) 0 512

pub mark_at : (words : List ℕ) (p : ℕ) → p < 512
    → get_or (marks_of words) p false ≡ is_marked words p
unfolding marks_of
mark_at words p inside = get_or-map-range_with_len (is_marked words) 0 512 p p false inside
    (omega arith)

-- words have these marks
same_marks : (words : List ℕ) (marks : List Bool) → length marks ≡ 512
    → ((p : ℕ) → p < 512 → is_marked words p ≡ get_or marks p false)
    → marks_of words ≡ marks
same_marks words marks many each =
    ext_get_or false (marks_of words) marks (length-marks words ∙ sym many)
    (λ i inside. let low : i < 512 = omega (arith, inside, length-marks words)
    in mark_at words i low ∙ each i low)

pub none_marked : marks_of (replicate 8 0) ≡ replicate 512 false
none_marked =
    same_marks (replicate 8 0) (replicate 512 false) (length-replicate 512 false)
    (λ p inside.
    ap (λ w. bit_at w (p % 64) == 1) (get_or-replicate 8 (p / 64) 0 0 (omega (arith, inside)))
    ∙ ap (λ n. n == 1) (bit_at-zero (p % 64))
    ∙ sym (get_or-replicate 512 p false false inside))

-- ---- joins

zip_at : {A : Type 0} (f : A → A → A) (xs ys : List A) (i : ℕ) (d : A) → i < length xs
    → i < length ys
    → get_or (zip_with f xs ys) i d ≡ f (get_or xs i d) (get_or ys i d)
zip_at f [] ys i d p q = absurd (omega arith)
zip_at f (x ∷ xs) [] i d p q = absurd (omega arith)
zip_at f (x ∷ xs) (y ∷ ys) zero d p q = refl
zip_at f (x ∷ xs) (y ∷ ys) (suc i) d p q = zip_at f xs ys i d (omega arith) (omega arith)

both_bits : (x y : ℕ) → x < 2 → y < 2 → (min x y == 1) ≡ ((x == 1) && (y == 1))
both_bits zero zero p q = refl
both_bits zero (suc zero) p q = refl
both_bits (suc zero) zero p q = refl
both_bits (suc zero) (suc zero) p q = refl
both_bits zero (suc (suc y)) p q = absurd (omega arith)
both_bits (suc zero) (suc (suc y)) p q = absurd (omega arith)
both_bits (suc (suc x)) y p q = absurd (omega arith)

pub joined_marks : (xs ys : List ℕ) → length xs ≡ 8 → length ys ≡ 8
    → marks_of (zip_with bit_and xs ys) ≡ join_marks (marks_of xs) (marks_of ys)
joined_marks xs ys eight eight_too =
    same_marks (zip_with bit_and xs ys) (join_marks (marks_of xs) (marks_of ys))
    (length-zip_with (λ a b. a && b) (marks_of xs) (marks_of ys)
    (length-marks xs ∙ sym (length-marks ys)) ∙ length-marks xs)
    (λ p inside.
    let a : ℕ = get_or xs (p / 64) 0 in
    let b : ℕ = get_or ys (p / 64) 0 in
    ap (λ w. bit_at w (p % 64) == 1)
    (zip_at bit_and xs ys (p / 64) 0 (omega (arith, eight, inside))
    (omega (arith, eight_too, inside)))
    ∙ ap (λ n. n == 1) (bit_at_and a b (p % 64))
    ∙ both_bits (bit_at a (p % 64)) (bit_at b (p % 64)) (bit_at-lt a (p % 64))
    (bit_at-lt b (p % 64))
    ∙ sym
    (zip_at (λ x y. x && y) (marks_of xs) (marks_of ys) p false
    (omega (arith, inside, length-marks xs)) (omega (arith, inside, length-marks ys))
    ∙ ap (λ x. x && get_or (marks_of ys) p false) (mark_at xs p inside)
    ∙ ap (λ y. is_marked xs p && y) (mark_at ys p inside)))

-- ---- one mark more

-- a word with the bit of a place
abbrev with_bit : List ℕ → ℕ → ℕ
with_bit words place = bit_or (get_or words (place / 64) 0) (1 * 2 ^ (place % 64) % 2 ^ 64)

set_bit : (words : List ℕ) (place p : ℕ) (b c : Bool) → length words ≡ 8 → place < 512
    → (p == place) ≡ b → (p / 64 == place / 64) ≡ c
    → is_marked (set words (place / 64) (with_bit words place)) p ≡ cond b true (is_marked words p)
set_bit words place p true c eight inside e f =
    let same : p ≡ place = eqb-true p place e in
    rw same
    (ap (λ w. bit_at w (place % 64) == 1)
    (get_or-set_same words (place / 64) (with_bit words place) 0 (omega (arith, eight, inside)))
    ∙ ap (λ n. n == 1)
    (bit_at_set_same w64 (get_or words (place / 64) 0) (place % 64) (omega arith)))
set_bit words place p false true eight inside e f =
    let word : p / 64 ≡ place / 64 = eqb-true (p / 64) (place / 64) f in
    let other : p % 64 ≢ place % 64 = λ bit. eqb-false p place e (omega (arith, word, bit)) in
    rw word
    (ap (λ w. bit_at w (p % 64) == 1)
    (get_or-set_same words (place / 64) (with_bit words place) 0 (omega (arith, eight, inside)))
    ∙ ap (λ n. n == 1)
    (bit_at_set_other w64 (get_or words (place / 64) 0) (place % 64) (omega arith)
    (p % 64) other))
set_bit words place p false false eight inside e f =
    ap (λ w. bit_at w (p % 64) == 1)
    (get_or-set_other words (place / 64) (p / 64) (with_bit words place) 0
    (eqb-false (p / 64) (place / 64) f))

set_at : (marks : List Bool) (place p : ℕ) (b : Bool) → length marks ≡ 512 → place < 512
    → (p == place) ≡ b
    → get_or (set marks place true) p false ≡ cond b true (get_or marks p false)
set_at marks place p true many inside e =
    let same : p ≡ place = eqb-true p place e in
    rw same (get_or-set_same marks place true false (omega (arith, many, inside)))
set_at marks place p false many inside e = get_or-set_other marks place p true false
    (eqb-false p place e)

pub marked_one : (words : List ℕ) (place : ℕ) → length words ≡ 8 → place < 512
    → marks_of (set words (place / 64) (with_bit words place)) ≡ set (marks_of words) place true
marked_one words place eight inside =
    same_marks (set words (place / 64) (with_bit words place)) (set (marks_of words) place true)
    (length-set (marks_of words) place true ∙ length-marks words)
    (λ p low.
    set_bit words place p (p == place) (p / 64 == place / 64) eight inside refl refl
    ∙ ap (λ m. cond (p == place) true m) (sym (mark_at words p low))
    ∙ sym (set_at (marks_of words) place p (p == place) (length-marks words) inside refl))

-- ---- marks of a part

-- the marks after so many of a part are set
abbrev pub part_marked : List Bool → ℕ → ℕ → List Bool
part_marked marks at n = paste marks at (replicate n true) n

pub part_none : (marks : List Bool) (at : ℕ) → marks ≡ part_marked marks at (at - at)
part_none marks at =
    let none : 0 ≡ at - at = omega arith in
    paste_none marks at (replicate 0 true) ∙ ap (part_marked marks at) none

pub part_more : (before words : List Bool) (at place : ℕ) → at ≤ place → place < length before
    → words ≡ part_marked before at (place - at)
    → set words place true ≡ part_marked before at (place + 1 - at)
part_more before words at place from inside is =
    let same : place ≡ at + (place - at) = omega (arith, from) in
    let more : (place - at) + 1 ≡ place + 1 - at = omega (arith, from) in
    ap (λ l. set l place true) is
    ∙ ap (λ k. set (part_marked before at (place - at)) k true) same
    ∙ fill_from_more before at (place - at) true (omega (arith, from, inside))
    ∙ ap (part_marked before at) more

pub part_all : (marks : List Bool) (at n : ℕ)
    → part_marked marks at n ≡ take at marks ++ (replicate n true ++ drop (at + n) marks)
part_all marks at n = paste_all marks at (replicate n true) n (sym (length-replicate n true))

-- so many bytes from a place on are marked
abbrev pub all_of_part : List Bool → ℕ → ℕ → Bool
all_of_part marks at n = list_all (λ mark. mark) (take n (drop at marks))

here : (marks : List Bool) (at n : ℕ) → get_or (drop at marks) n false ≡ get_or marks (at + n) false
here marks at n = get_or-drop at marks n false

pub none_tested : (marks : List Bool) (at : ℕ) → all_of_part marks at (at - at) ≡ true
none_tested marks at = let none : at - at ≡ 0 = omega arith in ap (all_of_part marks at) none

-- a byte of a part, beside those before it
abbrev Tested : List ℕ → ℕ → ℕ → Type 0
Tested words at place = all_of_part (marks_of words) at (place - at) ≡ true

is_there : (words : List ℕ) (at place : ℕ) → at ≤ place → place < 512 → (b : Bool)
    → is_marked words place ≡ b
    → get_or (drop at (marks_of words)) (place - at) false ≡ b
is_there words at place from inside b is =
    let same : at + (place - at) ≡ place = omega (arith, from) in
    get_or-drop at (marks_of words) (place - at) false
    ∙ ap (λ k. get_or (marks_of words) k false) same
    ∙ mark_at words place inside ∙ is

part_long : (words : List ℕ) (at place : ℕ) → at ≤ place → place < 512
    → place - at < length (drop at (marks_of words))
part_long words at place from inside = omega
    (arith, from, inside, length-drop at (marks_of words), length-marks words)

pub part_tested : (words : List ℕ) (at place : ℕ) → at ≤ place → place < 512
    → Tested words at place → is_marked words place ≡ true
    → Tested words at (place + 1)
part_tested words at place from inside before is =
    let rest : List Bool = drop at (marks_of words) in
    let more : place + 1 - at ≡ (place - at) + 1 = omega (arith, from) in
    ap (all_of_part (marks_of words) at) more
    ∙ list_all_more (λ mark. mark) rest (place - at) false (part_long words at place from inside)
    ∙ ap (λ b. b && get_or rest (place - at) false) before
    ∙ is_there words at place from inside true is

shown : (l : List Bool) (n count : ℕ) → n < length l → n < count → n < length (take count l)
shown l n count long few = elim (cases_lt count (length l)) [
  | inl less ↦ omega (arith, length-take-le count l (omega (arith, less)), few)
  | inr more ↦ omega (arith, ap (λ (x : List Bool). length x) (take_all count l more), long)
]

pub part_fails : (words : List ℕ) (at place count : ℕ) → at ≤ place → place < 512
    → place < at + count → is_marked words place ≡ false
    → all_of_part (marks_of words) at count ≡ false
part_fails words at place count from inside few is =
    let rest : List Bool = drop at (marks_of words) in
    let less : place - at < count = omega (arith, from, few) in
    list_all_at (λ mark. mark) (take count rest) (place - at) false
    (shown rest (place - at) count (part_long words at place from inside) less)
    (get_or-take count rest (place - at) false less ∙ is_there words at place from inside false is)

-- no mark stands past the last
past_all : (words : List ℕ) (at n count : ℕ) → 512 ≤ at + n → n ≤ count
    → all_of_part (marks_of words) at n ≡ true
    → all_of_part (marks_of words) at count ≡ true
past_all words at n count past few is =
    let rest : List Bool = drop at (marks_of words) in
    let short : length rest ≤ n = omega
    (arith, past, length-drop at (marks_of words), length-marks words) in
    let short_too : length rest ≤ count = omega (arith, short, few) in
    ap (list_all (λ mark. mark)) (take_all count rest short_too ∙ sym (take_all n rest short)) ∙ is

pub part_ends : (words : List ℕ) (at place count : ℕ) → at ≤ place → place ≤ at + count
    → (place < 512 → at + count ≤ place)
    → Tested words at place → all_of_part (marks_of words) at count ≡ true
part_ends words at place count from few ends is = elim (cases_lt place 512) [
  | inl less ↦ let same : count ≡ place - at = omega (arith, from, few, ends less) in ap
      (all_of_part (marks_of words) at) same ∙ is
  | inr more ↦ past_all words at (place - at) count (omega (arith, from, more))
      (omega (arith, from, few)) is
]
