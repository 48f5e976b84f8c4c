-- Bytes have no fault exactly where they are those of a record.
use Rattle.std.proofs.Common.{◌≡◌, ℕ, zero, suc, ◌-◌, ◌≤◌, Bool, true, false, cond}
use Rattle.std.proofs.Common.{not, ◌&&◌, ◌||◌, ◌==◌, List, [], ◌∷◌, ◌++◌, length, take, drop}
use Rattle.std.proofs.Common.{replicate, Option, Some, None, refl, sym, ap, ◌∙◌, subst}
use Rattle.std.proofs.Common.{arith, find, eqb-true, eq-eqb, lit≤}
use Rattle.std.proofs.lemmas.List.{take-append-drop, length-take-le, length-drop}
use Rattle.std.proofs.lemmas.List.Sums.{prefix_len-le-length}
use Rattle.std.proofs.Math.Seq.{drop-append_seam}
use Rattle.std.specs.List.{list_all, before_first, position_or_len}
use Rattle.acdm_record.specs.declared.fault.RecordError.{RecordError}
use Rattle.acdm_record.specs.declared.fault.RecordError.TheVariants.{WrongLength, UnknownLayout}
use Rattle.acdm_record.specs.declared.fault.RecordError.TheVariants.{MalformedText, ReservedBits}
use Rattle.acdm_record.specs.declared.fault.RecordError.TheVariants.{ReservedBytes}
use Rattle.acdm_record.specs.declared.field.Field.{Field}
use Rattle.acdm_record.specs.declared.field.Field.TheVariants.{Reached, Alerts, Layout, Eczt, Eezt}
use Rattle.acdm_record.specs.declared.field.Field.TheVariants.{Aczt, Aezt}
use Rattle.acdm_record.specs.declared.field.TextField.{TextField}
use Rattle.acdm_record.specs.Place.{offset_of, text_offset_of, text_width_of, text_fields}
use Rattle.acdm_record.specs.Fields.{part, number_at, text_at, padded, is_text, is_layout, is_added}
use Rattle.acdm_record.specs.Fields.{bytes_in_layout, are_zeros, is_reached_word, is_alert_word}
use Rattle.acdm_record.specs.Fields.{is_allowed, IsRecord}
use Rattle.acdm_record.specs.Faults.{AreOfRecord, is_filled, is_layout_of, has_fault, faults}
use Rattle.acdm_record.specs.Faults.{first_fault, first_fault_in}
use Rattle.acdm_record.proofs.Zeros.{number-past}
use Rattle.std.specs.Cmp.{first_so, second_so}
use Rattle.std.proofs.lemmas.Bool.{and_from}
use Rattle.acdm_record.proofs.Places.{each_text_field, text_inside, text_length, text-padded}
use Rattle.acdm_record.proofs.Places.{number_of-fields_of, text_of-fields_of}

some_none : {K : Type 0} (x : K) → ◌≡◌ {A = Option K} (Some x) None → ⊥
some_none x h = absurd (cc)

-- ---- one part: text and zeros

-- nothing but zeros is so many zeros
pub all_zero : (xs : List ℕ) → list_all (λ b. b == 0) xs ≡ true → xs ≡ replicate (length xs) 0
all_zero [] h = refl
all_zero (x ∷ xs) h =
    let here : x ≡ 0 = grind (arith, first_so (x == 0) (list_all (λ b. b == 0) xs) h) in
    let rest = all_zero xs (second_so (x == 0) (list_all (λ b. b == 0) xs) h) in
    λ t. here t ∷ rest t

zeros_pass : (n : ℕ) → list_all (λ b. b == 0) (replicate n 0) ≡ true
zeros_pass zero = refl
zeros_pass (suc n) = zeros_pass n

-- a part that is filled is its text and so many zeros as are left
pub padded-filled : (w : ℕ) (p : List ℕ) → length p ≡ w → is_filled p ≡ true
    → p ≡ padded w (before_first (λ b. b == 0) p)
padded-filled w p e h =
    let k : ℕ = position_or_len (λ b. b == 0) p in
    let inside : k ≤ length p = prefix_len-le-length (λ b. not (b == 0)) p in
    let zeros = all_zero (drop k p)
    (second_so (is_text (take k p)) (list_all (λ b. b == 0) (drop k p)) h) in
    let behind : length (drop k p) ≡ w - length (take k p) = length-drop k p ∙ ap (λ n. n - k) e
    ∙ ap (λ n. w - n) (sym (length-take-le k p inside)) in
    sym (take-append-drop k p) ∙ ap (λ r. take k p ++ r) (zeros ∙ ap (λ n. replicate n 0) behind)

-- a padded text is filled
pub filled-padded : (w : ℕ) (t : List ℕ) → is_text t ≡ true → is_filled (padded w t) ≡ true
filled-padded w t h =
    let one : is_text (before_first (λ b. b == 0) (padded w t)) ≡ true =
    ap is_text (text-padded w t h) ∙ h in
    let place : position_or_len (λ b. b == 0) (padded w t) ≡ length t =
    text_length t (w - length t) h in
    let two : drop (position_or_len (λ b. b == 0) (padded w t)) (padded w t)
    ≡ replicate (w - length t) 0 = ap (λ n. drop n (padded w t)) place
    ∙ drop-append_seam t (replicate (w - length t) 0) in
    and_from (is_text (before_first (λ b. b == 0) (padded w t))) _ one
    (ap (list_all (λ b. b == 0)) two ∙ zeros_pass (w - length t))

-- ---- all texts

abbrev pub has_text : List ℕ → TextField → Bool
has_text b t = is_filled (part (text_offset_of t) (text_width_of t) b)

length-text_part : (b : List ℕ) (t : TextField) → 128 ≤ length b
    → length (part (text_offset_of t) (text_width_of t) b) ≡ text_width_of t
length-text_part b t l =
    let inside = text_inside t in
    length-take-le (text_width_of t) (drop (text_offset_of t) b)
    (omega (arith, length-drop (text_offset_of t) b))

each_true : {K : Type 0} (p : K → Bool) → ((k : K) → p k ≡ true) → (ks : List K)
    → list_all p ks ≡ true
each_true p h [] = refl
each_true p h (k ∷ ks) = and_from (p k) (list_all p ks) (h k) (each_true p h ks)

-- ---- the faults

found_none : {K : Type 0} (p : K → Bool) (x : K) (xs : List K) → find p (x ∷ xs) ≡ None
    → p x ≡ false
found_none p x xs h = elim (p x) as (λ v. p x ≡ v
    → v ≡ false) [
      | true ↦ λ e. absurd
          (some_none x (subst (λ v. cond v (Some x) (find p xs) ≡ None) e h))
      | false ↦ λ e. refl
    ] refl

found_later : {K : Type 0} (p : K → Bool) (x : K) (xs : List K) → find p (x ∷ xs) ≡ None
    → find p xs ≡ None
found_later p x xs h = subst (λ v. cond v (Some x) (find p xs) ≡ None) (found_none p x xs h) h

holds : (v : Bool) → not v ≡ false → v ≡ true
holds true h = refl
holds false h = absurd (cc)

-- the lengths and layouts that go together
pub layout_short : (l : ℕ) → 128 ≤ bytes_in_layout l
layout_short l = elim (l == 2) as (λ v. 128 ≤ cond v 160 128) [
  | true ↦ lit≤ tt
  | false ↦ lit≤ tt
]

one_of_two : (l n : ℕ) → n ≡ bytes_in_layout l → (n == 128 || n == 160) ≡ true
one_of_two l n = elim (l == 2) as (λ v. n ≡ cond v 160 128 → (n == 128 || n == 160) ≡ true) [
  | true ↦ λ e. rw e refl
  | false ↦ λ e. rw e refl
]

-- bytes without a fault are those of a record
module _ (b : List ℕ) (none : find (has_fault (length b) b) faults ≡ None) where
  past_length : find (has_fault (length b) b) (UnknownLayout ∷ MalformedText ∷ ReservedBits ∷ ReservedBytes ∷ []) ≡ None
  past_length = found_later (has_fault (length b) b) WrongLength
      (UnknownLayout ∷ MalformedText ∷ ReservedBits ∷ ReservedBytes ∷ []) none

  past_layout : find (has_fault (length b) b) (MalformedText ∷ ReservedBits ∷ ReservedBytes ∷ []) ≡ None
  past_layout = found_later (has_fault (length b) b) UnknownLayout
      (MalformedText ∷ ReservedBits ∷ ReservedBytes ∷ []) past_length

  past_texts : find (has_fault (length b) b) (ReservedBits ∷ ReservedBytes ∷ []) ≡ None
  past_texts = found_later (has_fault (length b) b) MalformedText (ReservedBits ∷ ReservedBytes ∷ [])
      past_layout

  past_bits : find (has_fault (length b) b) (ReservedBytes ∷ []) ≡ None
  past_bits = found_later (has_fault (length b) b) ReservedBits (ReservedBytes ∷ []) past_texts

  suits : is_layout_of (length b) (number_at b Layout) ≡ true
  suits = holds (is_layout_of (length b) (number_at b Layout))
      (found_none (has_fault (length b) b) UnknownLayout
      (MalformedText ∷ ReservedBits ∷ ReservedBytes ∷ []) past_length)

  known : is_layout (number_at b Layout) ≡ true
  known = first_so (is_layout (number_at b Layout)) _ suits

  whole : length b ≡ bytes_in_layout (number_at b Layout)
  whole = eqb-true (length b) (bytes_in_layout (number_at b Layout))
      (second_so (is_layout (number_at b Layout)) _ suits)

  filled : (t : TextField) → has_text b t ≡ true
  filled = each_text_field (has_text b)
      (holds (list_all (has_text b) text_fields)
      (found_none (has_fault (length b) b) MalformedText (ReservedBits ∷ ReservedBytes ∷ [])
      past_layout))

  bits : (is_reached_word (number_at b Reached) && is_alert_word (number_at b Alerts)) ≡ true
  bits = holds (is_reached_word (number_at b Reached) && is_alert_word (number_at b Alerts))
      (found_none (has_fault (length b) b) ReservedBits (ReservedBytes ∷ []) past_texts)

  spare : are_zeros (drop 144 b) ≡ true
  spare = holds (are_zeros (drop 144 b))
      (found_none (has_fault (length b) b) ReservedBytes [] past_bits)

  -- a time of de-icing stands behind the bytes of layout 1
  added : (f : Field) → 128 ≤ offset_of f → is_added (number_at b Layout) (number_at b f) ≡ true
  added f behind =
      elim (number_at b Layout == 2) as (λ v. length b ≡ cond v 160 128
      → (v || number_at b f == 0) ≡ true) [
        | true ↦ λ e. refl
        | false ↦ λ e. ap (λ n. n == 0) (number-past b f (omega arith))
      ] whole

  allowed : (f : Field) → is_allowed (number_at b Layout) f (number_at b f) ≡ true
  allowed Layout = and_from (number_at b Layout == number_at b Layout) _
      (eq-eqb (number_at b Layout) (number_at b Layout) refl) known
  allowed Reached = first_so (is_reached_word (number_at b Reached)) _ bits
  allowed Alerts = second_so (is_reached_word (number_at b Reached)) _ bits
  allowed Eczt = added Eczt (lit≤ tt)
  allowed Eezt = added Eezt (lit≤ tt)
  allowed Aczt = added Aczt (lit≤ tt)
  allowed Aezt = added Aezt (lit≤ tt)
  allowed _ = refl

  kept : IsRecord b
  kept = record {
    filled = λ t. padded-filled (text_width_of t) (part (text_offset_of t) (text_width_of t) b)
        (length-text_part b t (omega (arith, whole, layout_short (number_at b Layout)))) (filled t);
    texts = λ t. ap is_text (text_of-fields_of (number_at b) (text_at b) t)
        ∙ first_so (is_text (text_at b t)) _ (filled t);
    numbers = λ f. ap (is_allowed (number_at b Layout) f)
        (number_of-fields_of (number_at b) (text_at b) f) ∙ allowed f;
    spare = spare;
  }

  of_record : AreOfRecord b
  of_record = record { whole = whole; kept = kept }

pub AreOfRecord-none : (b : List ℕ) → first_fault b ≡ None → AreOfRecord b
unfolding first_fault_in
AreOfRecord-none b h = of_record b h

-- bytes of a record have no fault
pub none-AreOfRecord : (b : List ℕ) → AreOfRecord b → first_fault b ≡ None
unfolding first_fault_in
none-AreOfRecord b r =
    let number = λ (f : Field). sym
    (ap (is_allowed (number_at b Layout) f) (number_of-fields_of (number_at b) (text_at b) f))
    ∙ r.kept.numbers f in
    let texts = λ (t : TextField). ap is_filled (r.kept.filled t)
    ∙ filled-padded (text_width_of t) (text_at b t)
    (sym (ap is_text (text_of-fields_of (number_at b) (text_at b) t)) ∙ r.kept.texts t) in
    let known = second_so (number_at b Layout == number_at b Layout) _ (number Layout) in
    let suits : is_layout_of (length b) (number_at b Layout) ≡ true =
    and_from (is_layout (number_at b Layout)) _ known
    (eq-eqb (length b) (bytes_in_layout (number_at b Layout)) r.whole) in
    rw (
      one_of_two (number_at b Layout) (length b) r.whole,
      suits,
      each_true (has_text b) texts text_fields,
      number Reached,
      number Alerts,
      r.kept.spare,
    ) refl

-- bytes that have a fault are those of no record
pub no_record : (b : List ℕ) (e : RecordError) → first_fault b ≡ Some e → AreOfRecord b → ⊥
no_record b e h r = some_none e (sym h ∙ none-AreOfRecord b r)

pub fault-length : (b : List ℕ) → (length b == 128 || length b == 160) ≡ false
    → first_fault b ≡ Some WrongLength
unfolding first_fault_in
fault-length b h = rw h refl
