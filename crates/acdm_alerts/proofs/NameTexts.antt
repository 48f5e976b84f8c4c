-- The names that are there so far, and those that are left.
use Rattle.std.proofs.Common.{◌≡◌, ℕ, suc, ◌+◌, ◌-◌, ◌*◌, ◌<◌, ◌≤◌, Bool, true, false, ◌&&◌, not}
use Rattle.std.proofs.Common.{cond, List, [], ◌∷◌, ◌++◌, length, refl, sym, ap, ◌∙◌, append_assoc}
use Rattle.std.proofs.Common.{append-nil, arith, zero, subst, ◌/◌, ◌%◌, ◌^◌, ◌==◌, ◌⊎◌, inl, inr}
use Rattle.std.proofs.Common.{w64}
use Rattle.std.proofs.Math.Nat.{div-div-eq-div-mul, div-le_self}
use Rattle.std.proofs.lemmas.Nat.{pow-add}
use Rattle.std.proofs.lemmas.Nat.Bits.{bit_at-zero, bit_at-trailing_zeros, bit_at_above}
use Rattle.std.proofs.lemmas.Bool.{cases_lt}
use Rattle.std.proofs.lemmas.List.{length-append}
use Rattle.std.specs.Int.{bit_at, trailing_zeros}
use Rattle.acdm_alerts.specs.Names.{name_of, has_bit, piece, names_from, names_text}

-- what still comes at a bit
abbrev pub names_left : Bool → ℕ → ℕ → List ℕ
names_left is_first word bit = names_from is_first word bit (32 - bit)

-- these bytes and what still comes are the whole text; each bit gave seven bytes at most
pub record Named (bytes : List ℕ) (is_first : Bool) (word bit : ℕ) : Type 0 where
  pub whole : bytes ++ names_left is_first word bit ≡ names_text word
  pub short : length bytes + 7 ≤ 7 * bit

pub named-start : (word : ℕ) → Named [] true word 1
unfolding names_text
named-start word = record { whole = refl; short = omega arith }

left-step : (is_first : Bool) (word bit : ℕ) → bit < 32
    → names_left is_first word bit ≡ piece is_first word bit
    ++ names_left (is_first && not (has_bit word bit)) word (bit + 1)
left-step is_first word bit h =
    let more : 32 - bit ≡ suc (32 - (bit + 1)) = omega arith in
    ap (names_from is_first word bit) more

module _ (bytes : List ℕ) (is_first : Bool) (word bit : ℕ) (inside : bit < 32)
    (w : Named bytes is_first word bit) where
  -- a bit that is set
  pub named-set : (new : List ℕ) → has_bit word bit ≡ true
      → new ≡ bytes ++ (cond is_first [] (44 ∷ []) ++ name_of bit) → length new ≤ length bytes + 7
      → Named new false word (bit + 1)
  named-set new set p short =
      let text : List ℕ = cond is_first [] (44 ∷ []) ++ name_of bit in
      let here : piece is_first word bit ≡ text = ap (λ b. cond b text []) set in
      let flag : (is_first && not (has_bit word bit)) ≡ false = ap (λ b. is_first && not b) set
      ∙ no_more is_first in
      let had = w.short in
      record {
        whole = ap (λ l. l ++ names_left false word (bit + 1)) p
            ∙ append_assoc bytes text (names_left false word (bit + 1))
            ∙ sym (ap (λ l. bytes ++ l) (left-step is_first word bit inside
            ∙ ap (λ t. t ++ names_left (is_first && not (has_bit word bit)) word (bit + 1)) here
            ∙ ap (λ b. text ++ names_left b word (bit + 1)) flag))
            ∙ w.whole;
        short = omega arith;
      }
    where
      no_more : (b : Bool) → (b && false) ≡ false
      no_more true = refl
      no_more false = refl

  -- a bit that is clear
  pub named-clear : has_bit word bit ≡ false → Named bytes is_first word (bit + 1)
  named-clear clear =
      let here : piece is_first word bit ≡ [] =
      ap (λ b. cond b (cond is_first [] (44 ∷ []) ++ name_of bit) []) clear in
      let flag : (is_first && not (has_bit word bit)) ≡ is_first = ap (λ b. is_first && not b) clear
      ∙ still is_first in
      let had = w.short in
      record {
        whole = sym (ap (λ l. bytes ++ l) (left-step is_first word bit inside
            ∙ ap (λ t. t ++ names_left (is_first && not (has_bit word bit)) word (bit + 1)) here
            ∙ ap (λ b. names_left b word (bit + 1)) flag)) ∙ w.whole;
        short = omega arith;
      }
    where
      still : (b : Bool) → (b && true) ≡ b
      still true = refl
      still false = refl

pub named-end : (bytes : List ℕ) (is_first : Bool) (word : ℕ) → Named bytes is_first word 32
    → bytes ≡ names_text word
named-end bytes is_first word w = sym (append-nil bytes) ∙ w.whole

-- bits that are clear
pub named-past : (n : ℕ) (bytes : List ℕ) (is_first : Bool) (word bit : ℕ) → bit + n ≤ 32
    → ((i : ℕ) → bit ≤ i → i < bit + n → has_bit word i ≡ false)
    → Named bytes is_first word bit → Named bytes is_first word (bit + n)
named-past zero bytes is_first word bit h clear w =
    subst (Named bytes is_first word) (omega arith) w
named-past (suc n) bytes is_first word bit h clear w =
    let on = named-past n bytes is_first word (bit + 1) (omega (arith, h))
    (λ i a b. clear i (omega (arith, a)) (omega (arith, b)))
    (named-clear bytes is_first word bit (omega (arith, h)) w
    (clear bit (omega arith) (omega arith))) in
    subst (Named bytes is_first word) (omega arith) on

shifted : (w k i : ℕ) → bit_at (w / 2 ^ k) i ≡ bit_at w (k + i)
shifted w k i =
    ap (λ n. n % 2) (div-div-eq-div-mul w (2 ^ k) (2 ^ i) ∙ ap (λ n. w / n) (sym (pow-add 2 k i)))

bit_from : (w k i : ℕ) → k ≤ i → has_bit w i ≡ (bit_at (w / 2 ^ k) (i - k) == 1)
bit_from w k i h =
    let e : k + (i - k) ≡ i = omega (arith, h) in
    ap (λ n. n == 1) (sym (shifted w k (i - k) ∙ ap (bit_at w) e))

-- the first bit that is set of those that are left
pub record IsNextBit (word bit next : ℕ) : Type 0 where
  pub inside : next < 32
  pub after : bit ≤ next
  pub is_set : has_bit word next ≡ true
  pub clear : (i : ℕ) → bit ≤ i → i < next → has_bit word i ≡ false

pub next_bit : (word bit : ℕ) → word < 2 ^ 32 → (word / 2 ^ bit ≡ 0 → ⊥)
    → IsNextBit word bit (bit + trailing_zeros w64 (word / 2 ^ bit))
next_bit word bit fits more =
    let rest : ℕ = word / 2 ^ bit in
    let t : ℕ = trailing_zeros w64 rest in
    let less : rest ≤ word = div-le_self word (2 ^ bit) in
    let z = bit_at-trailing_zeros w64 rest (above_zero rest more) (omega (arith, less, fits)) in
    let one : bit_at word (bit + t) ≡ 1 = sym (shifted word bit t) ∙ z.1 in
    record {
      inside = below (cases_lt (bit + t) 32) one;
      after = omega arith;
      is_set = ap (λ n. n == 1) one;
      clear = λ i a b. bit_from word bit i a
          ∙ ap (λ n. n == 1) (z.2 (i - bit) (omega (arith, a, b)));
    }
  where
    above_zero : (n : ℕ) → (n ≡ 0 → ⊥) → 0 < n
    above_zero zero h = absurd (h refl)
    above_zero (suc n) h = omega arith

    below : {n : ℕ} → (n < 32) ⊎ (32 ≤ n) → bit_at word n ≡ 1 → n < 32
    below (inl h) one = h
    below {n} (inr h) one = absurd (omega (arith, one, bit_at_above word 32 n fits h))

-- where a bit is set, those before it are passed
pub named-next : (bytes : List ℕ) (is_first : Bool) (word bit next : ℕ)
    → IsNextBit word bit next → Named bytes is_first word bit → Named bytes is_first word next
named-next bytes is_first word bit next n w =
    let e : bit + (next - bit) ≡ next = omega (arith, n.after) in
    subst (Named bytes is_first word) e
    (named-past (next - bit) bytes is_first word bit (omega (arith, n.after, n.inside))
    (λ i a b. n.clear i a (omega (arith, b, n.after))) w)

-- where none is left, all names are there
pub named-last : (bytes : List ℕ) (is_first : Bool) (word bit : ℕ) → bit ≤ 32
    → word / 2 ^ bit ≡ 0 → Named bytes is_first word bit → Named bytes is_first word 32
named-last bytes is_first word bit h gone w =
    let e : bit + (32 - bit) ≡ 32 = omega (arith, h) in
    subst (Named bytes is_first word) e
    (named-past (32 - bit) bytes is_first word bit (omega (arith, h))
    (λ i a b. bit_from word bit i a ∙ ap (λ x. bit_at x (i - bit) == 1) gone
    ∙ ap (λ n. n == 1) (bit_at-zero (i - bit))) w)

-- a piece behind what stands before the names
pub pushed : (before bytes piece items new : List ℕ) → items ≡ before ++ bytes
    → new ≡ items ++ piece → new ≡ before ++ (bytes ++ piece)
pushed before bytes piece items new e f =
    f ∙ ap (λ l. l ++ piece) e ∙ append_assoc before bytes piece

pub pushed-short : (bytes piece items new : List ℕ) → new ≡ items ++ piece
    → length new ≤ length items + 7 → length (bytes ++ piece) ≤ length bytes + 7
pushed-short bytes piece items new f h =
    let e : length new ≡ length items + length piece = ap length f ∙ length-append items piece in
    omega (arith, e, h, length-append bytes piece)
