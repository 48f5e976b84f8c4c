-- Flights by their numbers and with their marks.
use Rattle.std.proofs.Common.{◌≡◌, ℕ, ◌+◌, ◌-◌, ◌<◌, ◌≤◌, zero, suc, Bool, true, false, cond, not}
use Rattle.std.proofs.Common.{◌==◌, nat_eq, nat_lt, List, [], ◌∷◌, ◌++◌, map, length, get_or, set}
use Rattle.std.proofs.Common.{drop, slice_get, Some, None, refl, sym, ap, subst, ◌∙◌, arith}
use Rattle.std.proofs.Common.{append-nil, length-append, eqb-true, position}
use Rattle.std.proofs.lemmas.Bool.{eqb-false}
use Rattle.std.proofs.lemmas.List.{get_or_past, get_or-set_same, get_or-set_other}
use Rattle.std.proofs.lemmas.Option.{get_or_from_slice_get}
use Rattle.std.specs.List.{position_or_len}
use Rattle.std.specs.Map.{keys_of, values_of, lookup}
use Rattle.std.specs.Option.{unwrap_or}
use Rattle.std.proofs.lemmas.Bool.Decides.{nat_tests}
use Rattle.indexmap.specs.Layout.{length-set_value_at}
use Rattle.indexmap.specs.Layout.{set_value_at}
use Rattle.acdm_record.specs.declared.field.Field.TheVariants.{Alerts, Flight}
use Rattle.acdm_record.specs.Fields.{Fields, number_of, new_record, migrated}
use Rattle.acdm_alerts.specs.Conditions.{alert_word}
use Rattle.acdm_step.specs.declared.outcome.Alerted.{Alerted}
use Rattle.acdm_step.specs.Board.{place_of, touched}
use Rattle.acdm_step.specs.Verdicts.{alerted, alert_list}
use Rattle.acdm_step.specs.Marked.{is_marked, is_alerted, AreFlights, Keeps}
use Rattle.acdm_step.proofs.Marking.{before_or_in}
use Rattle.acdm_step.specs.declared.verdicts.TheConstants.{MOST_FLIGHTS}

abbrev number : Fields → ℕ
number r = number_of r Flight

abbrev pub has_alert : Fields → Bool
has_alert r = not (number_of r Alerts == 0)

none_new : has_alert (new_record 0) ≡ false
none_new = refl

pub length-values : {K X : Type 0} (es : List (K × X)) → length (values_of es) ≡ length es
length-values [] = refl
length-values (e ∷ es) = ap suc (length-values es)

pub length-keys : {K X : Type 0} (es : List (K × X)) → length (keys_of es) ≡ length es
length-keys [] = refl
length-keys (e ∷ es) = ap suc (length-keys es)

pub values-set : {K X : Type 0} (es : List (K × X)) (i : ℕ) (w : X)
    → values_of (set_value_at es i w) ≡ set (values_of es) i w
values-set [] i w = refl
values-set (e ∷ es) zero w = refl
values-set (e ∷ es) (suc i) w = ap (λ l. e.1 ∷ l) (values-set es i w)

keys-set : (es : List (ℕ × Fields)) (i : ℕ) (w : Fields)
    → keys_of (set_value_at es i w) ≡ keys_of es
keys-set [] i w = refl
keys-set (e ∷ es) zero w = refl
keys-set (e ∷ es) (suc i) w = ap (λ l. e.0 ∷ l) (keys-set es i w)

pub values-push : {K X : Type 0} (es : List (K × X)) (k : K) (w : X)
    → values_of (es ++ (k, w) ∷ []) ≡ values_of es ++ w ∷ []
values-push [] k w = refl
values-push (e ∷ es) k w = ap (λ l. e.1 ∷ l) (values-push es k w)

keys_push : (es : List (ℕ × Fields)) (k : ℕ) (w : Fields)
    → keys_of (es ++ (k, w) ∷ []) ≡ keys_of es ++ k ∷ []
keys_push [] k w = refl
keys_push (e ∷ es) k w = ap (λ l. e.0 ∷ l) (keys_push es k w)

map_push : (rs : List Fields) (w : Fields)
    → map number (rs ++ w ∷ []) ≡ map number rs ++ number w ∷ []
map_push [] w = refl
map_push (r ∷ rs) w = ap (λ l. number r ∷ l) (map_push rs w)

pub keys-push : (es : List (ℕ × Fields)) (w : Fields) → keys_of es ≡ map number (values_of es)
    → keys_of (es ++ (number w, w) ∷ []) ≡ map number (values_of (es ++ (number w, w) ∷ []))
keys-push es w h = keys_push es (number w) w ∙ ap (λ l. l ++ number w ∷ []) h
    ∙ sym (ap (map number) (values-push es (number w) w) ∙ map_push (values_of es) w)

numbers-set : (rs : List Fields) (i : ℕ) (w : Fields) → number w ≡ number (get_or rs i w)
    → map number (set rs i w) ≡ map number rs
numbers-set [] i w h = refl
numbers-set (r ∷ rs) zero w h = ap (λ n. n ∷ map number rs) h
numbers-set (r ∷ rs) (suc i) w h = ap (λ l. number r ∷ l) (numbers-set rs i w h)

-- ---- places

symmetric : (a b : ℕ) → nat_eq a b ≡ (b == a)
symmetric a b = grind arith

pub by_key : (f : ℕ) (rs : List Fields) → position_or_len (nat_eq f) (map number rs) ≡ place_of rs f
by_key f [] = refl
by_key f (r ∷ rs) = λ i. cond (not (symmetric f (number r) i)) (1 + by_key f rs i) 0

pub found_place : {X : Type 0} (test : X → Bool) (xs : List X) (i : ℕ) → position test xs ≡ Some i
    → position_or_len test xs ≡ i
found_place test xs i h = only (nat_lt (position_or_len test xs) (length xs))
    (position_or_len test xs) i h
  where
    only : (b : Bool) (a i : ℕ) → cond b (Some a) None ≡ Some i → a ≡ i
    only true a i e = ap (λ o. unwrap_or o 0) e
    only false a i e = absurd (cc)

pub no_place : {X : Type 0} (test : X → Bool) (xs : List X) → position test xs ≡ None
    → position_or_len test xs ≡ length xs
no_place test xs h = omega (
  arith,
  up_to test xs,
  past (position_or_len test xs) (length xs)
      (not_inside (nat_lt (position_or_len test xs) (length xs)) (position_or_len test xs) h),
)
  where
    not_inside : (b : Bool) (a : ℕ) → cond b (Some a) None ≡ None → b ≡ false
    not_inside true a e = absurd (cc)
    not_inside false a e = refl

    past : (a b : ℕ) → nat_lt a b ≡ false → b ≤ a
    past a b e = grind (arith, nat_tests)

    up_to : {X : Type 0} (test : X → Bool) (xs : List X) → position_or_len test xs ≤ length xs
    up_to test [] = omega arith
    up_to test (x ∷ xs) = elim (test x)
        as (λ b. cond (not b) (1 + position_or_len test xs) 0 ≤ suc (length xs)) [
          | true ↦
              omega arith
          | false ↦ omega (arith, up_to test xs)
        ]

-- ---- alerts

pub alerted-set : (rs : List Fields) (i : ℕ) (w : Fields) (p : ℕ) → i < length rs
    → is_alerted (set rs i w) p ≡ cond (p == i) (has_alert w) (is_alerted rs p)
alerted-set rs i w p h =
    elim (p == i) as (λ b. (p == i) ≡ b
    → is_alerted (set rs i w) p ≡ cond b (has_alert w) (is_alerted rs p)) [
      | true ↦ λ e. ap has_alert (ap (λ n. get_or (set rs i w) n (new_record 0)) (eqb-true p i e)
          ∙ get_or-set_same rs i w (new_record 0) h)
      | false ↦ λ e. ap has_alert (get_or-set_other rs i p w (new_record 0) (eqb-false p i e))
    ] refl

after_zero : (p : ℕ) → (suc p == 0) ≡ false
after_zero p = grind arith

before_suc : (n : ℕ) → (0 == suc n) ≡ false
before_suc n = grind arith

both_suc : (p n : ℕ) → (suc p == suc n) ≡ (p == n)
both_suc p n = grind arith

pub alerted-push : (rs : List Fields) (w : Fields) (p : ℕ)
    → is_alerted (rs ++ w ∷ []) p ≡ cond (p == length rs) (has_alert w) (is_alerted rs p)
alerted-push [] w zero = refl
alerted-push [] w (suc p) = sym (ap (λ b. cond b (has_alert w) false) (after_zero p))
alerted-push (r ∷ rs) w zero =
    sym (ap (λ b. cond b (has_alert w) (has_alert r)) (before_suc (length rs)))
alerted-push (r ∷ rs) w (suc p) = alerted-push rs w p
    ∙ ap (λ b. cond b (has_alert w) (is_alerted rs p)) (sym (both_suc p (length rs)))

pub alerted_inside : (rs : List Fields) (p : ℕ) → is_alerted rs p ≡ true → p < length rs
alerted_inside rs p h = before_or_in p (length rs) (λ b. b)
    (λ b. absurd (cc (h, ap has_alert (get_or_past rs p (new_record 0) b), none_new)))

abbrev pub listing : Fields → Alerted
listing r = record { flight = number_of r Flight; alerts = number_of r Alerts }

without : (r : Fields) → has_alert r ≡ false → alerted r ≡ []
without r h = by (number_of r Alerts == 0) h
  where
    by : (b : Bool) → not b ≡ false → cond b [] (listing r ∷ []) ≡ []
    by true e = refl
    by false e = absurd (cc)

with_one : (r : Fields) → has_alert r ≡ true → alerted r ≡ listing r ∷ []
with_one r h = by (number_of r Alerts == 0) h
  where
    by : (b : Bool) → not b ≡ true → cond b [] (listing r ∷ []) ≡ listing r ∷ []
    by true e = absurd (cc)
    by false e = refl

skip_one : (rs : List Fields) (p : ℕ) → is_alerted rs p ≡ false
    → alert_list (drop p rs) ≡ alert_list (drop (suc p) rs)
skip_one [] zero h = refl
skip_one [] (suc p) h = refl
skip_one (r ∷ rs) zero h = ap (λ l. l ++ alert_list rs) (without r h)
skip_one (r ∷ rs) (suc p) h = skip_one rs p h

skip : (rs : List Fields) (k from : ℕ)
    → ((p : ℕ) → from ≤ p → p < from + k → is_alerted rs p ≡ false)
    → alert_list (drop from rs) ≡ alert_list (drop (from + k) rs)
skip rs zero from h = ap (λ n. alert_list (drop n rs)) (omega arith)
skip rs (suc k) from h =
    skip_one rs from (h from (omega arith) (omega arith))
    ∙ skip rs k (suc from) (λ p a b. h p (omega (arith, a)) (omega (arith, b)))
    ∙ ap (λ n. alert_list (drop n rs)) (omega arith)

pub skipped : (rs : List Fields) (from n : ℕ) → from ≤ n
    → ((p : ℕ) → from ≤ p → p < n → is_alerted rs p ≡ false)
    → alert_list (drop from rs) ≡ alert_list (drop n rs)
skipped rs from n e h = skip rs (n - from) from (λ p a b. h p a (omega (arith, b, e)))
    ∙ ap (λ m. alert_list (drop m rs)) (omega (arith, e))

pub taken : (rs : List Fields) (p : ℕ) (r : Fields) → slice_get rs p ≡ Some r
    → is_alerted rs p ≡ true → alert_list (drop p rs) ≡ listing r ∷ alert_list (drop (suc p) rs)
taken [] p r e h = absurd (cc)
taken (s ∷ rs) zero r e h = ap (λ l. l ++ alert_list rs) (with_one s h)
    ∙ ap (λ x. listing x ∷ alert_list rs) (ap (λ o. unwrap_or o s) e)
taken (s ∷ rs) (suc p) r e h = taken rs p r e h

none_more : (rs : List Fields) (from : ℕ) → ((p : ℕ) → from ≤ p → is_alerted rs p ≡ false)
    → alert_list (drop from rs) ≡ []
none_more [] zero h = refl
none_more [] (suc n) h = refl
none_more (r ∷ rs) zero h = ap (λ l. l ++ alert_list rs) (without r (h 0 (omega arith)))
    ∙ none_more rs zero (λ p k. h (suc p) (omega arith))
none_more (r ∷ rs) (suc n) h = none_more rs n (λ p k. h (suc p) (omega (arith, k)))

pub listed_all : (items : List Alerted) (rs : List Fields) (from : ℕ)
    → items ++ alert_list (drop from rs) ≡ alert_list rs
    → ((p : ℕ) → from ≤ p → is_alerted rs p ≡ false) → items ≡ alert_list rs
listed_all items rs from e none = sym (append-nil items)
    ∙ ap (λ l. items ++ l) (sym (none_more rs from none)) ∙ e

pub listed_more : (items all : List Alerted) (rs : List Fields) (from p : ℕ) (r : Fields)
    (x : Alerted) → all ≡ items ++ x ∷ [] → x ≡ listing r → slice_get rs p ≡ Some r
    → is_alerted rs p ≡ true
    → from ≤ p → ((q : ℕ) → from ≤ q → q < p → is_alerted rs q ≡ false)
    → items ++ alert_list (drop from rs) ≡ alert_list rs
    → all ++ alert_list (drop (p + 1) rs) ≡ alert_list rs
listed_more items all rs from p r x is one at on after none so_far =
    let next : p + 1 ≡ suc p = omega arith in
    ap (λ l. l ++ alert_list (drop (p + 1) rs)) is ∙ push_front items x
    (alert_list (drop (p + 1) rs))
    ∙ ap (λ l. items ++ l) (ap (λ y. y ∷ alert_list (drop (p + 1) rs)) one
    ∙ ap (λ n. listing r ∷ alert_list (drop n rs)) next ∙ sym (taken rs p r at on)
    ∙ sym (skipped rs from p after none))
    ∙ so_far
  where
    push_front : (xs : List Alerted) (y : Alerted) (ys : List Alerted)
        → (xs ++ y ∷ []) ++ ys ≡ xs ++ y ∷ ys
    push_front [] y ys = refl
    push_front (z ∷ xs) y ys = ap (λ l. z ∷ l) (push_front xs y ys)

number-touched : (moment : ℕ) (r : Fields) → number (touched moment r) ≡ number r
number-touched moment r = get_or-set_other r.numbers 2 0 (alert_word r moment) 0 (omega arith)

pub keeps_touched : (rs : List Fields) (i moment : ℕ) (r w : Fields) → slice_get rs i ≡ Some r
    → w ≡ touched moment r → Keeps rs i w
keeps_touched rs i moment r w at is = ap number is ∙ number-touched moment r
    ∙ ap number (sym (get_or_from_slice_get rs i r w at))

pub keeps_migrated : (rs : List Fields) (i : ℕ) (r w : Fields) → slice_get rs i ≡ Some r
    → w ≡ migrated r → Keeps rs i w
keeps_migrated rs i r w at is = ap number is
    ∙ ap number (sym (get_or_from_slice_get rs i r w at))

-- ---- what a struct of flights keeps

no_flight : (es : List (ℕ × Fields)) (f : ℕ) → position_or_len (nat_eq f) (keys_of es) ≡ length es
    → lookup (nat_eq f) es ≡ None
no_flight [] f h = refl
no_flight (e ∷ es) f h = by (nat_eq f e.0) (no_flight es f) h
  where
    by : (b : Bool) → (position_or_len (nat_eq f) (keys_of es) ≡ length es
        → lookup (nat_eq f) es ≡ None)
        → cond (not b) (1 + position_or_len (nat_eq f) (keys_of es)) 0 ≡ suc (length es)
        → cond b (Some e.1) (lookup (nat_eq f) es) ≡ None
    by true rest k = absurd (omega (arith, k))
    by false rest k = rest (omega (arith, k))

pub absent : (es : List (ℕ × Fields)) (f : ℕ) → keys_of es ≡ map number (values_of es)
    → place_of (values_of es) f ≡ length (values_of es) → lookup (nat_eq f) es ≡ None
absent es f keyed h = no_flight es f (ap (position_or_len (nat_eq f)) keyed
    ∙ by_key f (values_of es) ∙ h ∙ length-values es)

pub none_yet : (es : List (ℕ × Fields)) (room : ℕ) (words : List ℕ) → es ≡ [] → MOST_FLIGHTS ≤ room
    → ((p : ℕ) → is_marked words p ≡ false) → AreFlights es room words
none_yet es room words e many unmarked =
    subst (λ l. AreFlights l room words) (sym e) (record {
      keyed = refl;
      marked = λ p. unmarked p ∙ sym (nothing p);
      few = omega arith;
      room_for_all = omega (arith, many);
    })
  where
    nothing : (p : ℕ) → is_alerted [] p ≡ false
    nothing zero = refl
    nothing (suc p) = refl

pub kept : (es : List (ℕ × Fields)) (room : ℕ) (words new : List ℕ) (i : ℕ) (w : Fields) (m : Bool)
    → AreFlights es room words → i < length (values_of es)
    → Keeps (values_of es) i w → m ≡ has_alert w
    → ((p : ℕ) → is_marked new p ≡ cond (p == i) m (is_marked words p))
    → AreFlights (set_value_at es i w) room new
kept es room words new i w m a inside same is put = record {
  keyed = keys-set es i w ∙ a.keyed
      ∙ sym (ap (map number) (values-set es i w) ∙ numbers-set (values_of es) i w same);
  marked = λ p.
      put p ∙ ap (λ b. cond (p == i) b (is_marked words p)) is ∙ ap (cond (p == i) (has_alert w))
      (a.marked p)
      ∙ sym (ap (λ rs. is_alerted rs p) (values-set es i w)
      ∙ alerted-set (values_of es) i w p inside);
  few = omega (arith, a.few, length-set_value_at es i w);
  room_for_all = omega (arith, a.room_for_all, length-set_value_at es i w);
}

pub added : (es all : List (ℕ × Fields)) (room left : ℕ) (words new : List ℕ) (i : ℕ) (w : Fields)
    (m : Bool) → AreFlights es room words → length (values_of es) < MOST_FLIGHTS → i ≡ length es
    → all ≡ es ++ (number w, w) ∷ [] → room ≤ left + 1 → m ≡ has_alert w
    → ((p : ℕ) → is_marked new p ≡ cond (p == i) m (is_marked words p))
    → AreFlights all left new
added es all room left words new i w m a fits last is less marks put =
    subst (λ l. AreFlights l left new) (sym is) (record {
      keyed = keys-push es w a.keyed;
      marked = λ p.
          put p ∙ ap (λ b. cond (p == i) b (is_marked words p)) marks
          ∙ ap (cond (p == i) (has_alert w)) (a.marked p)
          ∙ ap (λ n. cond (p == n) (has_alert w) (is_alerted (values_of es) p)) (last
          ∙ sym (length-values es))
          ∙ sym (ap (λ rs. is_alerted rs p) (values-push es (number w) w)
          ∙ alerted-push (values_of es) w p);
      few = omega (arith, fits, length-values es, length-append es ((number w, w) ∷ []));
      room_for_all = omega (arith, a.room_for_all, less, length-append es ((number w, w) ∷ []));
    })
