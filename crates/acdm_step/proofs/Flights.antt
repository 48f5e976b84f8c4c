-- Lists of flights: where one is, and what a longer list changes.
use Rattle.std.proofs.Common.{◌≡◌, ◌≢◌, ℕ, suc, ◌+◌, Bool, true, false, cond, not, ◌&&◌, ◌||◌, ◌==◌}
use Rattle.std.proofs.Common.{nat_lt, List, [], ◌∷◌, ◌++◌, map, length, get_or, set, Option, Some}
use Rattle.std.proofs.Common.{None, refl, sym, ap, subst, ◌∙◌, arith, eqb-true, eq-eqb, ne_eqb}
use Rattle.std.proofs.lemmas.Bool.{eqb-false}
use Rattle.std.proofs.lemmas.Bool.Decides.{nat_tests}
use Rattle.std.specs.List.{list_any, position_or_len}
use Rattle.std.specs.Cmp.{first_so, second_so}
use Rattle.acdm_record.specs.Fields.{Fields}
use Rattle.acdm_step.specs.Commands.{History, created}
use Rattle.acdm_step.specs.Summaries.{with_flight, flights}

abbrev pub is_it : ℕ → ℕ → Bool
is_it f g = g == f

abbrev pub has : ℕ → List ℕ → Bool
has f gs = list_any (is_it f) gs

lt_suc : (a b : ℕ) → nat_lt (suc a) (suc b) ≡ nat_lt a b
lt_suc a b = grind (arith, nat_tests)

zero_lt : (n : ℕ) → nat_lt 0 (suc n) ≡ true
zero_lt n = grind (arith, nat_tests)

one_more : (n : ℕ) → 1 + n ≡ suc n
one_more n = omega arith

pub or_left : (a b : Bool) → (a || b) ≡ false → a ≡ false
or_left true b h = h
or_left false b h = refl

pub or_right : (a b : Bool) → (a || b) ≡ false → b ≡ false
or_right true b h = absurd (cc)
or_right false b h = h

pub and_false : (a b : Bool) → b ≡ false → (a && b) ≡ false
and_false true b h = h
and_false false b h = refl

not_true : (b : Bool) → not b ≡ true → b ≡ false
not_true true h = absurd (cc)
not_true false h = refl

-- where the flight is, its record is found
pub found : (f : ℕ) (h : ℕ → Fields) (d : Fields) (gs : List ℕ) → has f gs ≡ true
    → get_or (map h gs) (position_or_len (is_it f) gs) d ≡ h f
found f h d [] e = absurd (cc)
found f h d (g ∷ gs) e =
    elim (is_it f g) as (λ b. is_it f g ≡ b
    → get_or (map h (g ∷ gs)) (cond (not b) (1 + position_or_len (is_it f) gs) 0) d ≡ h f) [
      | true ↦ λ t. ap h (eqb-true g f t)
      | false ↦ λ t. ap (λ n. get_or (map h (g ∷ gs)) n d) (one_more (position_or_len (is_it f) gs))
          ∙ found f h d gs (sym (ap (λ b. b || has f gs) t) ∙ e)
    ] refl

pub inside : (f : ℕ) (gs : List ℕ) → nat_lt (position_or_len (is_it f) gs) (length gs) ≡ has f gs
inside f [] = refl
inside f (g ∷ gs) =
    elim (is_it f g) as (λ b. nat_lt (cond (not b) (1 + position_or_len (is_it f) gs) 0)
    (suc (length gs)) ≡ (b || has f gs)) [
      | true ↦ zero_lt (length gs)
      | false ↦ ap (λ n. nat_lt n (suc (length gs))) (one_more (position_or_len (is_it f) gs))
          ∙ lt_suc (position_or_len (is_it f) gs) (length gs) ∙ inside f gs
    ]

pub outside : (f : ℕ) (gs : List ℕ) → has f gs ≡ false → position_or_len (is_it f) gs ≡ length gs
outside f [] e = refl
outside f (g ∷ gs) e =
    ap (λ b. cond (not b) (1 + position_or_len (is_it f) gs) 0) (or_left (is_it f g) (has f gs) e)
    ∙ one_more (position_or_len (is_it f) gs)
    ∙ ap suc (outside f gs (or_right (is_it f g) (has f gs) e))

module _ (f : ℕ) (old new : ℕ → Fields) (other : (g : ℕ) → g ≢ f → new g ≡ old g) where
  pub absent : (gs : List ℕ) → has f gs ≡ false → map new gs ≡ map old gs
  absent [] e = refl
  absent (g ∷ gs) e =
      let here = other g (eqb-false g f (or_left (is_it f g) (has f gs) e)) in
      let rest = absent gs (or_right (is_it f g) (has f gs) e) in
      λ t. here t ∷ rest t

abbrev pub is_distinct : List ℕ → Bool
is_distinct [] = true
is_distinct (g ∷ gs) = not (has g gs) && is_distinct gs

module _ (f : ℕ) (old new : ℕ → Fields) (other : (g : ℕ) → g ≢ f → new g ≡ old g) where
  -- among distinct flights, only the place of this one changes
  pub updated : (gs : List ℕ) → is_distinct gs ≡ true → has f gs ≡ true
      → map new gs ≡ set (map old gs) (position_or_len (is_it f) gs) (new f)
  updated [] d e = refl
  updated (g ∷ gs) d e =
      elim (is_it f g) as (λ b. is_it f g ≡ b
      → map new (g ∷ gs) ≡ set (map old (g ∷ gs))
      (cond (not b) (1 + position_or_len (is_it f) gs) 0) (new f)) [
        | true ↦ λ t.
            let same : g ≡ f = eqb-true g f t in
            let here : new g ≡ new f = ap new same in
            let gone : has f gs ≡ false = subst (λ x. has x gs ≡ false) same
            (not_true (has g gs) (first_so (not (has g gs)) (is_distinct gs) d)) in
            let rest = absent f old new other gs gone in
            λ i. here i ∷ rest i
        | false ↦ λ t.
            let here = other g (eqb-false g f t) in
            let rest = updated gs (second_so (not (has g gs)) (is_distinct gs) d)
            (sym (ap (λ b. b || has f gs) t) ∙ e) in
            (λ i. here i ∷ rest i)
            ∙ sym (ap (λ n. set (map old (g ∷ gs)) n (new f))
            (one_more (position_or_len (is_it f) gs)))
      ] refl

has-push : (f x : ℕ) (gs : List ℕ) → has f (gs ++ x ∷ []) ≡ (has f gs || is_it f x)
has-push f x [] = grind arith
has-push f x (g ∷ gs) = elim (is_it f g)
    as (λ b. (b || has f (gs ++ x ∷ [])) ≡ ((b || has f gs) || is_it f x)) [
      | true ↦ refl
      | false ↦
          has-push f x gs
    ]

eqb_comm_false : (a b : ℕ) → (a == b) ≡ false → (b == a) ≡ false
eqb_comm_false a b h = ne_eqb b a (λ e. eqb-false a b h (sym e))

distinct-push : (f : ℕ) (gs : List ℕ) → is_distinct gs ≡ true → has f gs ≡ false
    → is_distinct (gs ++ f ∷ []) ≡ true
distinct-push f [] d e = refl
distinct-push f (g ∷ gs) d e =
    let no : has g gs ≡ false = not_true (has g gs) (first_so (not (has g gs)) (is_distinct gs) d)
    in
    let ne : is_it g f ≡ false = eqb_comm_false g f (or_left (is_it f g) (has f gs) e) in
    let still : has g (gs ++ f ∷ []) ≡ false = has-push g f gs ∙ ap (λ b. b || is_it g f) no ∙ ne in
    ap (λ b. not b && is_distinct (gs ++ f ∷ [])) still
    ∙ distinct-push f gs (second_so (not (has g gs)) (is_distinct gs) d)
    (or_right (is_it f g) (has f gs) e)

distinct-with_flight : (fs : List ℕ) (o : Option ℕ) → is_distinct fs ≡ true
    → is_distinct (with_flight fs o) ≡ true
distinct-with_flight fs None d = d
distinct-with_flight fs (Some f) d =
    elim (has f fs) as (λ b. has f fs ≡ b
    → is_distinct (cond b fs (fs ++ f ∷ [])) ≡ true) [
      | true ↦ λ e. d
      | false ↦
          λ e. distinct-push f fs d e
    ] refl

pub flights_distinct : (J : History) → is_distinct (flights J) ≡ true
flights_distinct [] = refl
flights_distinct (e ∷ J) = distinct-with_flight (flights J) (created e) (flights_distinct J)

-- a flight that is not there now was not there before
pub grows : (f : ℕ) (fs : List ℕ) (o : Option ℕ) → has f (with_flight fs o) ≡ false
    → has f fs ≡ false
grows f fs None h = h
grows f fs (Some g) h =
    elim (has g fs) as (λ b. has f (cond b fs (fs ++ g ∷ [])) ≡ false
    → has f fs ≡ false) [
      | true ↦ λ e. e
      | false ↦
          λ e. or_left (has f fs) (is_it f g) (sym (has-push f g fs) ∙ e)
    ] h

pub has-with_flight : (f : ℕ) (fs : List ℕ) → has f (with_flight fs (Some f)) ≡ true
has-with_flight f fs =
    elim (has f fs) as (λ b. has f fs ≡ b → has f (cond b fs (fs ++ f ∷ [])) ≡ true) [
      | true ↦ λ e. e
      | false ↦ λ e. has-push f f fs ∙ ap (λ b. b || is_it f f) e ∙ eq-eqb f f refl
    ] refl
