-- Each record of a board is as long as its programs were told.
use Rattle.std.proofs.Common.{cond, take, drop, ◌+◌, ◌-◌, slice_get, Some}
use Rattle.std.proofs.Common.{◌≡◌, ℕ, zero, suc, ◌<◌, ◌≤◌, Bool, true, false, ◌==◌, nat_lt, List, [], ◌∷◌}
use Rattle.std.proofs.Common.{◌++◌, map, length, set, get_or, refl, sym, ap, ◌∙◌, subst, arith, eq-eqb, eqb-true}
use Rattle.std.proofs.lemmas.List.{get_or_past, length-map, length-take-le, get_or-append_right}
use Rattle.std.proofs.lemmas.List.{get_or-drop}
use Rattle.std.proofs.lemmas.Option.{get_or_from_slice_get}
use Rattle.std.specs.List.{list_all}
use Rattle.std.specs.Cmp.{first_so, second_so}
use Rattle.std.proofs.lemmas.Bool.{and_from}
use Rattle.acdm_record.specs.declared.field.Field.TheVariants.{Layout}
use Rattle.acdm_record.specs.Fields.{Fields, length_of, bytes_in_layout, number_of, new_record, migrated}
use Rattle.acdm_record.proofs.Table.{all_at}
use Rattle.bpf_regstate.specs.declared.length.Length.{Length}
use Rattle.bpf_regstate.specs.declared.length.Length.TheVariants.{L128, L160}
use Rattle.bpf_regstate.specs.Lengths.{bytes_in, same_length}
use Rattle.acdm_step.specs.declared.prepare.Change.{Change}
use Rattle.acdm_step.specs.declared.prepare.Change.TheVariants as changes
use Rattle.acdm_slots.specs.Loaded.{Loaded}
use Rattle.acdm_step.specs.History.{Board}
use Rattle.acdm_step.specs.Board.{AreLong, begun, is_long, place_of, record_on, touched}
use Rattle.acdm_step.specs.Prepared.{Fits}
use Rattle.acdm_step.proofs.Numbers.{length-touched}

module _ {X : Type 0} (p : X → Bool) where
  pub all_put : (xs : List X) (i : ℕ) (x : X) → list_all p xs ≡ true → p x ≡ true
      → list_all p (set xs i x) ≡ true
  all_put [] i x h k = refl
  all_put (y ∷ ys) zero x h k = and_from (p x) (list_all p ys) k (second_so (p y) (list_all p ys) h)
  all_put (y ∷ ys) (suc i) x h k = and_from (p y) (list_all p (set ys i x))
      (first_so (p y) (list_all p ys) h)
      (all_put ys i x (second_so (p y) (list_all p ys) h) k)

  pub all_add : (xs : List X) (x : X) → list_all p xs ≡ true → p x ≡ true
      → list_all p (xs ++ x ∷ []) ≡ true
  all_add [] x h k = and_from (p x) true k refl
  all_add (y ∷ ys) x h k = and_from (p y) (list_all p (ys ++ x ∷ []))
      (first_so (p y) (list_all p ys) h) (all_add ys x (second_so (p y) (list_all p ys) h) k)

module _ (record_length : Length) where
  pub long : (r : Fields) → length_of r ≡ bytes_in record_length → is_long record_length r ≡ true
  long r e = eq-eqb (length_of r) (bytes_in record_length) e

  pub all_touched : (moment : ℕ) (rs : List Fields) → list_all (is_long record_length) rs ≡ true
      → list_all (is_long record_length) (map (touched moment) rs) ≡ true
  all_touched moment [] h = refl
  all_touched moment (r ∷ rs) h =
      and_from (is_long record_length (touched moment r)) _
      (ap (λ n. n == bytes_in record_length) (length-touched r moment)
      ∙ first_so (is_long record_length r) (list_all (is_long record_length) rs) h)
      (all_touched moment rs (second_so (is_long record_length r)
      (list_all (is_long record_length) rs) h))

-- the record that a flight begins with
begun_long : (record_length : Length) (f : ℕ) → is_long record_length (begun record_length f) ≡ true
unfolding bytes_in
begun_long L128 f = refl
begun_long L160 f = refl

long_on : (b : Board) (f : ℕ) → AreLong b → is_long b.slots.record_length (record_on b f) ≡ true
long_on b f h =
    let l = b.slots.record_length in
    let rs = b.records in
    elim (nat_lt (place_of rs f) (length rs)) as (λ v. nat_lt (place_of rs f) (length rs) ≡ v
    → is_long l (record_on b f) ≡ true) [
      | true ↦ λ e. let inside : place_of rs f < length rs = grind arith in
          all_at (is_long l) rs (place_of rs f) (begun l f) inside h
      | false ↦ λ e. let outside : length rs ≤ place_of rs f = grind arith in
          ap (is_long l) (get_or_past rs (place_of rs f) (begun l f) outside) ∙ begun_long l f
    ] refl

pub length_on : (b : Board) (f : ℕ) → AreLong b
    → length_of (record_on b f) ≡ bytes_in b.slots.record_length
length_on b f h = eqb-true (length_of (record_on b f)) (bytes_in b.slots.record_length) (long_on b f h)

-- a plan's record is long enough for the board that the plan fits
pub fits_put : (b : Board) (change : Change) (i : ℕ) (r : Fields) → change ≡ changes.Put i r
    → Fits b change → is_long b.slots.record_length r ≡ true
fits_put b change i r e h = (subst (Fits b) e h).2

-- layout 2 has the length of records that come to it
pub all_migrated : (rs : List Fields) → list_all (is_long L160) (map migrated rs) ≡ true
unfolding bytes_in
all_migrated [] = refl
all_migrated (r ∷ rs) = all_migrated rs

-- a record that has not come to it yet has the length of layout 1
pub at_rest : (f : Fields → Fields) (all records : List Fields) (place : ℕ) (r : Fields)
    → place < length all → records ≡ map f (take place all) ++ drop place all
    → slice_get records place ≡ Some r → list_all (is_long L128) all ≡ true → length_of r ≡ 128
unfolding bytes_in
at_rest f all records place r before is there long =
    let front : length (map f (take place all)) ≡ place =
    length-map (take place all) f ∙ length-take-le place all (omega (arith, before)) in
    let same : r ≡ get_or all place r =
    sym (get_or_from_slice_get records place r r there)
    ∙ ap (λ rs. get_or rs place r) is
    ∙ get_or-append_right (map f (take place all)) (drop place all) place place r front (omega arith)
    ∙ ap (λ n. get_or (drop place all) n r) (minus_itself place)
    ∙ get_or-drop place all 0 r ∙ ap (λ n. get_or all n r) (plus_zero place) in
    ap length_of same
    ∙ eqb-true (length_of (get_or all place r)) 128 (all_at (is_long L128) all place r before long)
  where
    minus_itself : (n : ℕ) → n - n ≡ 0
    minus_itself n = omega arith

    plus_zero : (n : ℕ) → n + 0 ≡ n
    plus_zero n = omega arith

-- what a record of a board with times of de-icing has
layout_of_160 : (n : ℕ) → ◌≡◌ {A = ℕ} (bytes_in_layout n) 160 → n ≡ 2
layout_of_160 n e =
    elim (n == 2) as (λ v. (n == 2) ≡ v → ◌≡◌ {A = ℕ} (cond v 160 128) 160 → n ≡ 2) [
      | true ↦ λ t h. eqb-true n 2 t
      | false ↦ λ t h. absurd (too_short h)
    ] refl e
  where
    too_short : ◌≡◌ {A = ℕ} 128 160 → ⊥
    too_short h = omega (arith, h)

pub second_layout : (l : Length) (r : Fields) → same_length l L128 ≡ false
    → length_of r ≡ bytes_in l → number_of r Layout ≡ 2
unfolding bytes_in
second_layout L128 r h e = absurd (cc)
second_layout L160 r h e = layout_of_160 (number_of r Layout) e

pub begun_first : (l : Length) (f : ℕ) → same_length l L160 ≡ false → new_record f ≡ begun l f
begun_first L128 f h = refl
begun_first L160 f h = absurd (cc)

pub length_160 : (l : Length) → l ≡ L160 → bytes_in l ≡ 160
unfolding bytes_in
length_160 l e = ap bytes_in e

-- a plan of a migrate
module _ (b : Board) (change : Change) (slots : Loaded) (e : change ≡ changes.Migrate slots)
    (h : Fits b change) where
  pub fits_first : b.slots.record_length ≡ L128
  fits_first = (subst (Fits b) e h).0

  pub migrated_long : (rs new : List Fields) → new ≡ map migrated rs
      → list_all (is_long slots.record_length) new ≡ true
  migrated_long rs new is =
      subst (λ l. list_all (is_long l) new ≡ true) (sym (subst (Fits b) e h).1)
      (subst (λ xs. list_all (is_long L160) xs ≡ true) (sym is) (all_migrated rs))
