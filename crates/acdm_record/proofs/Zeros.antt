-- Bytes say the same with zeros behind them as without.
use Rattle.std.proofs.Common.{◌≡◌, ℕ, zero, suc, ◌+◌, ◌-◌, ◌≤◌, true, false, ◌==◌, nat_lt}
use Rattle.std.proofs.Common.{◌&&◌, List, [], ◌∷◌, ◌++◌, length, take, drop, slice_index}
use Rattle.std.proofs.Common.{replicate, refl, sym, ap, ◌∙◌, arith}
use Rattle.std.proofs.Math.ListN.{get_or-append}
use Rattle.std.proofs.Math.Seq.{get_or-append_right}
use Rattle.std.proofs.lemmas.List.{get_or_past, get_or-drop, drop-append-le, take-append-le}
use Rattle.std.proofs.lemmas.List.{length-drop}
use Rattle.std.specs.List.{before_first}
use Rattle.byteorder.specs.Endian.{little_from}
use Rattle.byteorder.specs.Numbers.{little_from-take}
use Rattle.acdm_record.specs.declared.field.Field.{Field}
use Rattle.acdm_record.specs.declared.field.TextField.{TextField}
use Rattle.acdm_record.specs.Place.{offset_of, width_of, fields, text_offset_of, text_width_of}
use Rattle.acdm_record.specs.Place.{text_fields}
use Rattle.acdm_record.specs.Fields.{part, number_at, fields_at, are_zeros, ArePadded, padded}
use Rattle.acdm_record.proofs.Places.{map_same, same_record, text_inside}

no_byte : (n i : ℕ) → slice_index (replicate n 0) i ≡ 0
no_byte zero i = get_or_past {X = ℕ} [] i 0 (omega arith)
no_byte (suc n) zero = refl
no_byte (suc n) (suc i) = no_byte n i

-- a number is read from its bytes
same_number : (i w : ℕ) (xs ys : List ℕ) → ((k : ℕ) → slice_index xs k ≡ slice_index ys k)
    → little_from i w xs ≡ little_from i w ys
same_number i zero xs ys h = refl
same_number i (suc w) xs ys h = let rest = same_number (suc i) w xs ys h in rw (h i, rest) refl

-- a number whose place is behind the last byte is 0
pub number-past : (b : List ℕ) (f : Field) → length b ≤ offset_of f → number_at b f ≡ 0
number-past b f h = little_from-take 0 (width_of f) (width_of f) (drop (offset_of f) b) (omega arith)
    ∙ same_number 0 (width_of f) (drop (offset_of f) b) (replicate 0 0) (λ k.
    get_or-drop (offset_of f) b k 0 ∙ get_or_past b (offset_of f + k) 0 (omega arith)
    ∙ sym (no_byte 0 k)) ∙ nothing 0 (width_of f)
  where
    nothing : (i w : ℕ) → little_from i w [] ≡ 0
    nothing i zero = refl
    nothing i (suc w) = rw (no_byte 0 i, nothing (suc i) w) refl

zeros_left : (k n : ℕ) → are_zeros (drop k (replicate n 0)) ≡ true
zeros_left zero zero = refl
zeros_left zero (suc n) = zeros_left zero n
zeros_left (suc k) zero = refl
zeros_left (suc k) (suc n) = zeros_left k n

module _ (n : ℕ) where
  pub zeros_after : (k : ℕ) (b : List ℕ) → are_zeros (drop k (b ++ replicate n 0)) ≡ are_zeros (drop k b)
  zeros_after zero [] = zeros_left zero n
  zeros_after (suc k) [] = zeros_left (suc k) n
  zeros_after zero (x ∷ xs) = ap (λ v. (x == 0) && v) (zeros_after zero xs)
  zeros_after (suc k) (x ∷ xs) = zeros_after k xs

  module _ (b : List ℕ) where
    pub byte-zeros : (i : ℕ) → slice_index (b ++ replicate n 0) i ≡ slice_index b i
    byte-zeros i =
        elim (nat_lt i (length b)) as (λ v. nat_lt i (length b) ≡ v
        → slice_index (b ++ replicate n 0) i ≡ slice_index b i) [
          | true ↦ λ e. get_or-append b (replicate n 0) 0 i (grind arith)
          | false ↦ λ e. let past : length b ≤ i = grind arith in
              get_or-append_right b (replicate n 0) i 0 past ∙ no_byte n (i - length b)
              ∙ sym (get_or_past b i 0 past)
        ] refl

    pub number-zeros : (f : Field) → number_at (b ++ replicate n 0) f ≡ number_at b f
    number-zeros f =
        little_from-take 0 (width_of f) (width_of f) (drop (offset_of f) (b ++ replicate n 0))
        (omega arith) ∙ same_number 0 (width_of f) (drop (offset_of f) (b ++ replicate n 0))
        (drop (offset_of f) b) (λ k. get_or-drop (offset_of f) (b ++ replicate n 0) k 0
        ∙ byte-zeros (offset_of f + k) ∙ sym (get_or-drop (offset_of f) b k 0))
        ∙ sym (little_from-take 0 (width_of f) (width_of f) (drop (offset_of f) b) (omega arith))

    module _ (long : 128 ≤ length b) where
      pub text-zeros : (t : TextField)
          → part (text_offset_of t) (text_width_of t) (b ++ replicate n 0)
          ≡ part (text_offset_of t) (text_width_of t) b
      text-zeros t =
          let inside = text_inside t in
          ap (take (text_width_of t)) (drop-append-le (text_offset_of t) b (replicate n 0) (omega arith))
          ∙ take-append-le (text_width_of t) (drop (text_offset_of t) b) (replicate n 0)
          (omega (arith, length-drop (text_offset_of t) b))

      pub fields-zeros : fields_at (b ++ replicate n 0) ≡ fields_at b
      fields-zeros = same_record _ _ _ _ (map_same _ _ number-zeros fields)
          (map_same _ _ (λ t. ap (λ xs. before_first (λ x. x == 0) xs) (text-zeros t)) text_fields)

      pub padded-zeros : ArePadded b → ArePadded (b ++ replicate n 0)
      padded-zeros h t = text-zeros t ∙ h t
          ∙ ap (λ xs. padded (text_width_of t) (before_first (λ x. x == 0) xs)) (sym (text-zeros t))

      pub unpadded : ArePadded (b ++ replicate n 0) → ArePadded b
      unpadded h t = sym (text-zeros t) ∙ h t
          ∙ ap (λ xs. padded (text_width_of t) (before_first (λ x. x == 0) xs)) (text-zeros t)
