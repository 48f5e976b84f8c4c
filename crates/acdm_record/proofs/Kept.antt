-- What every record keeps, is kept by a change of one name.
use Rattle.std.proofs.Common.{◌≡◌, ◌≢◌, ℕ, ◌<◌, ◌≤◌, true, false, ◌==◌, not, List, [], length, set}
use Rattle.std.proofs.Common.{drop, replicate, refl, sym, ap, ◌∙◌, subst, arith, eqb-true}
use Rattle.std.proofs.lemmas.List.{get_or-set_same, get_or-set_other, length-map, length-take}
use Rattle.std.proofs.lemmas.Bool.{eqb-false}
use Rattle.std.specs.List.{before_first, prefix_len}
use Rattle.acdm_record.specs.declared.field.Field.{Field}
use Rattle.acdm_record.specs.declared.field.Field.TheVariants.{Flight, Reached, Alerts, Layout}
use Rattle.acdm_record.specs.declared.field.TextField.{TextField}
use Rattle.acdm_record.specs.declared.field.TextField.TheVariants.{Callsign}
use Rattle.acdm_record.specs.Place.{index_of, fields, text_offset_of, text_width_of, text_index_of}
use Rattle.acdm_record.specs.Place.{text_fields}
use Rattle.acdm_record.specs.Fields.{fields_of, number_of, text_of, set_number, set_text, part}
use Rattle.acdm_record.specs.Fields.{number_at, text_at, fields_at, is_text, is_allowed, AreAllowed}
use Rattle.acdm_record.specs.Fields.{AreTexts, IsRecord, ArePadded, is_layout, are_zeros, migrated}
use Rattle.std.specs.Cmp.{first_so}
use Rattle.acdm_record.proofs.Places.{same_field, same_text_field, index_bound, text_index_bound}
use Rattle.acdm_record.proofs.Places.{text_of-fields_of}

module _ (n : Field → ℕ) (s : TextField → List ℕ) where
  -- the numbers after a change of one
  pub number_of-set_number : (f g : Field) (v : ℕ) → index_of g ≢ index_of f
      → number_of (set_number (fields_of n s) f v) g ≡ number_of (fields_of n s) g
  number_of-set_number f g v ne =
      get_or-set_other (fields_of n s).numbers (index_of f) (index_of g) v 0 ne

  pub number_of-set_same : (f : Field) (v : ℕ) → number_of (set_number (fields_of n s) f v) f ≡ v
  number_of-set_same f v = get_or-set_same (fields_of n s).numbers (index_of f) v 0
      (subst (λ k. index_of f < k) (sym (length-map fields n)) (index_bound f))

  -- the layout stays where a number is put that may stand there
  layout-set_number : (f : Field) (v : ℕ)
      → is_allowed (number_of (fields_of n s) Layout) f v ≡ true
      → number_of (set_number (fields_of n s) f v) Layout ≡ number_of (fields_of n s) Layout
  layout-set_number f v h =
      elim (index_of Layout == index_of f) as (λ b. (index_of Layout == index_of f) ≡ b
      → number_of (set_number (fields_of n s) f v) Layout ≡ number_of (fields_of n s) Layout) [
        | true ↦ λ e.
            let same : f ≡ Layout = same_field f Layout
            (sym (eqb-true (index_of Layout) (index_of f) e)) in
            let is : v ≡ number_of (fields_of n s) Layout =
            eqb-true v (n Layout) (first_so (v == n Layout) (is_layout (n Layout))
            (subst (λ k. is_allowed (n Layout) k v ≡ true) same h)) in
            subst (λ k. number_of (set_number (fields_of n s) k v) Layout ≡ v) (sym same)
            (number_of-set_same Layout v) ∙ is
        | false ↦ λ e. number_of-set_number f Layout v (eqb-false (index_of Layout) (index_of f) e)
      ] refl

  allowed-in : (l : ℕ) (f : Field) (v : ℕ) → is_allowed l f v ≡ true
      → ((g : Field) → is_allowed l g (number_of (fields_of n s) g) ≡ true) → (g : Field)
      → is_allowed l g (number_of (set_number (fields_of n s) f v) g) ≡ true
  allowed-in l f v h old g =
      elim (index_of g == index_of f) as (λ b. (index_of g == index_of f) ≡ b
      → is_allowed l g (number_of (set_number (fields_of n s) f v) g) ≡ true) [
        | true ↦ λ e.
            let same : f ≡ g = same_field f g (sym (eqb-true (index_of g) (index_of f) e)) in
            subst (λ k. is_allowed l k (number_of (set_number (fields_of n s) f v) k) ≡ true) same
            (ap (is_allowed l f) (number_of-set_same f v) ∙ h)
        | false ↦ λ e. ap (is_allowed l g)
            (number_of-set_number f g v (eqb-false (index_of g) (index_of f) e)) ∙ old g
      ] refl

  pub allowed-set_number : (f : Field) (v : ℕ)
      → is_allowed (number_of (fields_of n s) Layout) f v ≡ true → AreAllowed (fields_of n s)
      → AreAllowed (set_number (fields_of n s) f v)
  allowed-set_number f v h old g =
      subst (λ l. is_allowed l g (number_of (set_number (fields_of n s) f v) g) ≡ true)
      (sym (layout-set_number f v h)) (allowed-in (number_of (fields_of n s) Layout) f v h old g)

  -- what may stand in layout 1 may stand in layout 2
  allowed_later : (g : Field) (v : ℕ) → (index_of g == index_of Layout) ≡ false
      → is_allowed 1 g v ≡ true → is_allowed 2 g v ≡ true
  allowed_later Layout v ne h = absurd (cc (ne))
  allowed_later Reached v ne h = h
  allowed_later Alerts v ne h = h
  allowed_later _ v ne h = refl

  pub allowed-migrated : number_of (fields_of n s) Layout ≡ 1 → AreAllowed (fields_of n s)
      → AreAllowed (migrated (fields_of n s))
  allowed-migrated first old g =
      elim (index_of g == index_of Layout) as (λ b. (index_of g == index_of Layout) ≡ b
      → is_allowed 2 g (number_of (migrated (fields_of n s)) g) ≡ true) [
        | true ↦ λ e. subst (λ k. is_allowed 2 k (number_of (migrated (fields_of n s)) k) ≡ true)
            (same_field Layout g (sym (eqb-true (index_of g) (index_of Layout) e))) refl
        | false ↦ λ e. ap (is_allowed 2 g)
            (number_of-set_number Layout g 2 (eqb-false (index_of g) (index_of Layout) e))
            ∙ allowed_later g (number_of (fields_of n s) g) e
            (subst (λ l. is_allowed l g (number_of (fields_of n s) g) ≡ true) first (old g))
      ] refl

  pub text_of-set_text : (t u : TextField) (v : List ℕ) → text_index_of u ≢ text_index_of t
      → text_of (set_text (fields_of n s) t v) u ≡ text_of (fields_of n s) u
  text_of-set_text t u v ne = get_or-set_other (fields_of n s).texts (text_index_of t)
      (text_index_of u) v [] ne

  pub text_of-set_same : (t : TextField) (v : List ℕ) → text_of (set_text (fields_of n s) t v) t ≡ v
  text_of-set_same t v = get_or-set_same (fields_of n s).texts (text_index_of t) v []
      (subst (λ k. text_index_of t < k) (sym (length-map text_fields s)) (text_index_bound t))

  pub texts-set_text : (t : TextField) (v : List ℕ) → is_text v ≡ true → AreTexts (fields_of n s)
      → AreTexts (set_text (fields_of n s) t v)
  texts-set_text t v h old u =
      elim (text_index_of u == text_index_of t) as (λ b. (text_index_of u == text_index_of t) ≡ b
      → is_text (text_of (set_text (fields_of n s) t v) u) ≡ true) [
        | true ↦ λ e.
            let same : t ≡ u = same_text_field t u
            (sym (eqb-true (text_index_of u) (text_index_of t) e)) in
            subst (λ k. is_text (text_of (set_text (fields_of n s) t v) k) ≡ true) same
            (ap is_text (text_of-set_same t v) ∙ h)
        | false ↦ λ e. ap is_text (text_of-set_text t u v
            (eqb-false (text_index_of u) (text_index_of t) e)) ∙ old u
      ] refl

-- nothing stands behind the times of de-icing after a write before them
spare-put : (b c : List ℕ) → drop 144 c ≡ drop 144 b → IsRecord b → are_zeros (drop 144 c) ≡ true
spare-put b c e r = ap are_zeros e ∙ r.spare

-- a change of the bytes that is a change of one number
pub kept-number : (b c : List ℕ) (f : Field) (v : ℕ) → fields_at c ≡ set_number (fields_at b) f v
    → is_allowed (number_of (fields_at b) Layout) f v ≡ true → ArePadded c
    → drop 144 c ≡ drop 144 b → IsRecord b → IsRecord c
kept-number b c f v e h p d r =
    record {
      filled = p;
      texts = subst AreTexts (sym e) r.texts;
      numbers = subst AreAllowed (sym e)
          (allowed-set_number (number_at b) (text_at b) f v h r.numbers);
      spare = spare-put b c d r;
    }

-- one that brings it to layout 2
pub kept-migrated : (b c : List ℕ) → fields_at c ≡ migrated (fields_at b)
    → number_of (fields_at b) Layout ≡ 1 → ArePadded c → drop 144 c ≡ drop 144 b → IsRecord b
    → IsRecord c
kept-migrated b c e first p d r =
    record {
      filled = p;
      texts = subst AreTexts (sym e) r.texts;
      numbers = subst AreAllowed (sym e)
          (allowed-migrated (number_at b) (text_at b) first r.numbers);
      spare = spare-put b c d r;
    }

-- a change of the bytes that is a change of one text
pub kept-text : (b c : List ℕ) (t : TextField) (v : List ℕ)
    → fields_at c ≡ set_text (fields_at b) t v → is_text v ≡ true → ArePadded c
    → drop 144 c ≡ drop 144 b → IsRecord b → IsRecord c
kept-text b c t v e h p d r =
    record {
      filled = p;
      texts = subst AreTexts (sym e) (texts-set_text (number_at b) (text_at b) t v h r.texts);
      numbers = subst AreAllowed (sym e) r.numbers;
      spare = spare-put b c d r;
    }

-- the text that is read up to the first zero byte of its place
pub text_read : (t : TextField) (b p r : List ℕ) → p ≡ part (text_offset_of t) (text_width_of t) b
    → r ≡ before_first (λ x. x == 0) p → r ≡ text_of (fields_at b) t
text_read t b p r ep er = er ∙ ap (before_first (λ x. x == 0)) ep
    ∙ sym (text_of-fields_of (number_at b) (text_at b) t)

-- a text is no longer than its place
pub text_short : (b : List ℕ) (t : TextField) → length (text_of (fields_at b) t) ≤ text_width_of t
text_short b t =
    let p : List ℕ = part (text_offset_of t) (text_width_of t) b in
    let e : text_of (fields_at b) t ≡ text_at b t = text_of-fields_of (number_at b) (text_at b) t in
    let one = length-take (prefix_len (λ x. not (x == 0)) p) p in
    let two = length-take (text_width_of t) (drop (text_offset_of t) b) in
    subst (λ n. n ≤ text_width_of t) (sym (ap length e)) (omega (arith, one, two))

-- ---- the record with nothing set

abbrev pub empty_bytes : List ℕ
empty_bytes = set (replicate 160 0) 62 1

filled-empty : ArePadded empty_bytes
filled-empty Callsign = refl
filled-empty _ = refl

texts-empty : AreTexts (fields_at empty_bytes)
texts-empty Callsign = refl
texts-empty _ = refl

numbers-empty : AreAllowed (fields_at empty_bytes)
numbers-empty Flight = refl
numbers-empty _ = refl

pub empty_record : IsRecord empty_bytes
empty_record = record {
  filled = filled-empty;
  texts = texts-empty;
  numbers = numbers-empty;
  spare = refl;
}
