-- What a table has for a key is what its signature promises.
use Rattle.std.proofs.Common.{◌≡◌, ℕ, ◌<◌, List, [], ◌∷◌, Bool, true, false, ◌&&◌, nat_eq}
use Rattle.std.proofs.Common.{nat_lt, nat_le, IsTrue, filter, refl, arith, cond, get_or}
use Rattle.std.specs.List.{list_all}
use Rattle.std.proofs.lemmas.Bool.Decides.{nat_tests}
use Rattle.bpf_helpers.specs.declared.range.Range.{Range}
use Rattle.bpf_helpers.specs.Promise.{Promise, are_in, do_keys_rise, is_call, is_in, is_key}
use Rattle.bpf_helpers.specs.Promise.{is_promised, is_well_formed}
use Rattle.acdm_tables.specs.Helpers.{TablesView, is_right, listed_or, step_or, taxi_by, taxi_minutes}
use Rattle.acdm_tables.specs.Helpers.{turn_round_by, turn_round_minutes}

both : (a b : Bool) → (a && b) ≡ true → (a ≡ true) × (b ≡ true)
both true b e = (refl, e)
both false b e = absurd (cc)

and : (a b : Bool) → a ≡ true → b ≡ true → (a && b) ≡ true
and a b e f = rw (e, f) refl

lower : (j k : ℕ) (table : List (ℕ × ℕ)) → j < k → list_all (λ entry. nat_lt k entry.0) table ≡ true
    → list_all (λ entry. nat_lt j entry.0) table ≡ true
lower j k [] below e = refl
lower j k (entry ∷ table) below e =
    let b = both (nat_lt k entry.0) (list_all (λ x. nat_lt k x.0) table) e in
    and (nat_lt j entry.0) (list_all (λ x. nat_lt j x.0) table) (grind (arith, nat_tests))
    (lower j k table below b.1)

-- all later keys are above the first one
all_above : (first : ℕ × ℕ) (table : List (ℕ × ℕ)) → do_keys_rise (first ∷ table) ≡ true
    → list_all (λ entry. nat_lt first.0 entry.0) table ≡ true
all_above first [] e = refl
all_above first (next ∷ table) e =
    let b = both (nat_lt first.0 next.0) (do_keys_rise (next ∷ table)) e in
    let below : first.0 < next.0 = grind (arith, nat_tests) in
    and (nat_lt first.0 next.0) (list_all (λ x. nat_lt first.0 x.0) table) b.0
    (lower first.0 next.0 table below (all_above next table b.1))

none_equal : (key : ℕ) (table : List (ℕ × ℕ)) → list_all (λ entry. nat_lt key entry.0) table ≡ true
    → filter (λ entry. nat_eq entry.0 key) table ≡ []
none_equal key [] e = refl
none_equal key (entry ∷ table) e =
    let b = both (nat_lt key entry.0) (list_all (λ x. nat_lt key x.0) table) e in
    let other : nat_eq entry.0 key ≡ false = grind (arith, nat_tests) in
    rw (other, none_equal key table b.1) refl

tail_rises : (first : ℕ × ℕ) (table : List (ℕ × ℕ)) → do_keys_rise (first ∷ table) ≡ true
    → do_keys_rise table ≡ true
tail_rises first [] e = refl
tail_rises first (next ∷ table) e = (both (nat_lt first.0 next.0) (do_keys_rise (next ∷ table)) e).1

-- each entry of a key has what the table has for it
listed_agrees : (other : ℕ) (table : List (ℕ × ℕ)) (key : ℕ) → do_keys_rise table ≡ true
    → list_all (λ entry. nat_eq entry.1 (listed_or other table key))
    (filter (λ entry. nat_eq entry.0 key) table) ≡ true
listed_agrees other [] key rise = refl
listed_agrees other (entry ∷ table) key rise =
    at (nat_eq entry.0 key) refl (listed_agrees other table key (tail_rises entry table rise))
  where
    at : (t : Bool) → nat_eq entry.0 key ≡ t
        → list_all (λ x. nat_eq x.1 (listed_or other table key))
        (filter (λ x. nat_eq x.0 key) table) ≡ true
        → list_all (λ x. nat_eq x.1 (listed_or other (entry ∷ table) key))
        (filter (λ x. nat_eq x.0 key) (entry ∷ table)) ≡ true
    at true h later =
        let key_is : entry.0 ≡ key = grind (arith, nat_tests) in
        let above : list_all (λ x. nat_lt key x.0) table ≡ true =
        rw key_is at (all_above entry table rise) in
        let own : nat_eq entry.1 entry.1 ≡ true = grind (arith, nat_tests) in
        rw (h, none_equal key table above, own) refl
    at false h later = rw h later

-- and lies in the range of answers
listed_inside : (args : List Range) (answer : Range) (other : ℕ) (table : List (ℕ × ℕ)) (key : ℕ)
    → is_in answer other ≡ true
    → list_all (λ entry. is_key args entry.0 && is_in answer entry.1) table ≡ true
    → is_in answer (listed_or other table key) ≡ true
listed_inside args answer other [] key inside e = inside
listed_inside args answer other (entry ∷ table) key inside e =
    let b = both (is_key args entry.0 && is_in answer entry.1)
    (list_all (λ x. is_key args x.0 && is_in answer x.1) table) e in
    at (nat_eq entry.0 key) refl (both (is_key args entry.0) (is_in answer entry.1) b.0).1
    (listed_inside args answer other table key inside b.1)
  where
    at : (t : Bool) → nat_eq entry.0 key ≡ t → is_in answer entry.1 ≡ true
        → is_in answer (listed_or other table key) ≡ true
        → is_in answer (listed_or other (entry ∷ table) key) ≡ true
    at true h own later = rw h own
    at false h own later = rw h later

-- what a well-formed signature has for its first argument is promised
pub listed_promised : (sig : Promise) (other first : ℕ) (xs : List ℕ) → IsTrue (is_well_formed sig)
    → is_in sig.answer other ≡ true → IsTrue (is_call sig (first ∷ xs))
    → IsTrue (is_promised sig (first ∷ xs) (listed_or other sig.table first))
listed_promised sig other first xs well inside call =
    let last =
    both _ (list_all (λ entry. is_key sig.args entry.0 && is_in sig.answer entry.1) sig.table) well
    in
    let keys = both _ (do_keys_rise sig.table) last.0 in
    let called : are_in sig.args (first ∷ xs) ≡ true = (both (are_in sig.args (first ∷ xs)) _ call).0 in
    let within = listed_inside sig.args sig.answer other sig.table first inside last.1 in
    rw (called, within, listed_agrees other sig.table first keys.1) refl

-- what a step has lies in the range of the steps
pub step_inside : (answer : Range) (minutes : ℕ) (steps : List (ℕ × ℕ)) (stand : ℕ)
    → is_in answer minutes ≡ true → list_all (λ step. is_in answer step.1) steps ≡ true
    → is_in answer (step_or minutes steps stand) ≡ true
step_inside answer minutes [] stand inside e = inside
step_inside answer minutes (step ∷ steps) stand inside e =
    let b = both (is_in answer step.1) (list_all (λ x. is_in answer x.1) steps) e in
    step_inside answer (cond (nat_le step.0 stand) step.1 minutes) steps stand
    (at (nat_le step.0 stand) b.0) b.1
  where
    at : (t : Bool) → is_in answer step.1 ≡ true
        → is_in answer (cond t step.1 minutes) ≡ true
    at true own = own
    at false own = inside

-- ---- the two helpers

pub turn_round_promised : (tables : TablesView) (xs : List ℕ) (answer : ℕ) → IsTrue (is_right tables)
    → IsTrue (is_call (turn_round_by tables) xs)
    → answer ≡ turn_round_minutes tables (get_or xs 0 0)
    → IsTrue (is_promised (turn_round_by tables) xs answer)
turn_round_promised tables [] answer right call is = absurd (cc)
turn_round_promised tables (first ∷ xs) answer right call is =
    let a = both _ _ right in
    let b = both _ _ a.0 in
    let c = both _ _ b.0 in
    rw is (listed_promised (turn_round_by tables) tables.other first xs c.0 b.1 call)

pub taxi_promised : (tables : TablesView) (xs : List ℕ) (answer : ℕ) → IsTrue (is_right tables)
    → IsTrue (is_call (taxi_by tables) xs) → answer ≡ taxi_minutes tables (get_or xs 0 0)
    → IsTrue (is_promised (taxi_by tables) xs answer)
taxi_promised tables [] answer right call is = absurd (cc)
taxi_promised tables (first ∷ xs) answer right call is =
    let a = both _ _ right in
    let b = both _ _ a.0 in
    let c = both _ _ b.0 in
    rw is (listed_promised (taxi_by tables) (step_or 1 tables.steps first) first xs c.1
    (step_inside (taxi_by tables).answer 1 tables.steps first refl a.1) call)
