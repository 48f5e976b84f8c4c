-- A helper that is called within its signature has an answer to give.
use Rattle.std.proofs.Common.{◌≡◌, ℕ, ◌^◌, ◌<◌, List, [], ◌∷◌, Bool, true, false, ◌&&◌, nat_eq}
use Rattle.std.proofs.Common.{nat_lt, nat_le, IsTrue, filter, refl, arith}
use Rattle.std.specs.List.{list_all}
use Rattle.std.proofs.lemmas.Bool.Decides.{nat_tests}
use Rattle.bpf_helpers.specs.declared.range.Range.{Range}
use Rattle.bpf_helpers.specs.Promise.{Promise, agrees, are_in, are_well_formed, do_keys_rise}
use Rattle.bpf_helpers.specs.Promise.{is_answer, is_call, is_in, is_key, is_ordered, is_promised}
use Rattle.bpf_helpers.specs.Promise.{is_question, is_well_formed}

both : (a b : Bool) → (a && b) ≡ true → (a ≡ true) × (b ≡ true)
both true b e = (refl, e)
both false b e = absurd (cc)

and : (a b : Bool) → a ≡ true → b ≡ true → (a && b) ≡ true
and a b e f = rw (e, f) refl

lower : (j k : ℕ) (table : List (ℕ × ℕ)) → j < k → list_all (λ entry. nat_lt k entry.0) table ≡ true
    → list_all (λ entry. nat_lt j entry.0) table ≡ true
lower j k [] below e = refl
lower j k (entry ∷ table) below e =
    let b = both (nat_lt k entry.0) (list_all (λ x. nat_lt k x.0) table) e in
    and (nat_lt j entry.0) (list_all (λ x. nat_lt j x.0) table) (grind (arith, nat_tests))
    (lower j k table below b.1)

-- all later keys are above the first one
all_above : (first : ℕ × ℕ) (table : List (ℕ × ℕ)) → do_keys_rise (first ∷ table) ≡ true
    → list_all (λ entry. nat_lt first.0 entry.0) table ≡ true
all_above first [] e = refl
all_above first (next ∷ table) e =
    let b = both (nat_lt first.0 next.0) (do_keys_rise (next ∷ table)) e in
    let below : first.0 < next.0 = grind (arith, nat_tests) in
    and (nat_lt first.0 next.0) (list_all (λ x. nat_lt first.0 x.0) table) b.0
    (lower first.0 next.0 table below (all_above next table b.1))

none_equal : (key : ℕ) (table : List (ℕ × ℕ)) → list_all (λ entry. nat_lt key entry.0) table ≡ true
    → filter (λ entry. nat_eq entry.0 key) table ≡ []
none_equal key [] e = refl
none_equal key (entry ∷ table) e =
    let b = both (nat_lt key entry.0) (list_all (λ x. nat_lt key x.0) table) e in
    let other : nat_eq entry.0 key ≡ false = grind (arith, nat_tests) in
    rw (other, none_equal key table b.1) refl

-- a word of the range that the table has for this key, if it has one
abbrev Fits : Range → List (ℕ × ℕ) → ℕ → ℕ → Type 0
Fits answer table key word = (is_in answer word ≡ true)
    × (list_all (λ entry. nat_eq entry.1 word) (filter (λ entry. nat_eq entry.0 key) table) ≡ true)

lowest : (r : Range) → is_ordered r ≡ true → is_in r r.lo ≡ true
lowest r e =
    let b = both (nat_le r.lo r.hi) (nat_lt r.hi (2 ^ 64)) e in
    and (nat_le r.lo r.lo) (nat_le r.lo r.hi) (grind (arith, nat_tests)) b.0

tail_rises : (first : ℕ × ℕ) (table : List (ℕ × ℕ)) → do_keys_rise (first ∷ table) ≡ true
    → do_keys_rise table ≡ true
tail_rises first [] e = refl
tail_rises first (next ∷ table) e = (both (nat_lt first.0 next.0) (do_keys_rise (next ∷ table)) e).1

fitting : (answer : Range) (table : List (ℕ × ℕ)) (key : ℕ) → is_ordered answer ≡ true
    → do_keys_rise table ≡ true
    → list_all (λ entry. is_in answer entry.1) table ≡ true
    → (word : ℕ) × Fits answer table key word
fitting answer [] key ordered rise e = (answer.lo, (lowest answer ordered, refl))
fitting answer (entry ∷ table) key ordered rise e =
    let b = both (is_in answer entry.1) (list_all (λ x. is_in answer x.1) table) e in
    at (nat_eq entry.0 key) refl b.0
    (fitting answer table key ordered (tail_rises entry table rise) b.1)
  where
    at : (t : Bool) → nat_eq entry.0 key ≡ t → is_in answer entry.1 ≡ true
        → (word : ℕ) × Fits answer table key word
        → (word : ℕ) × Fits answer (entry ∷ table) key word
    at true h inside rest =
        let key_is : entry.0 ≡ key = grind (arith, nat_tests) in
        let above : list_all (λ x. nat_lt key x.0) table ≡ true =
        rw key_is at (all_above entry table rise) in
        let own : nat_eq entry.1 entry.1 ≡ true = grind (arith, nat_tests) in
        (entry.1, (inside, rw (h, none_equal key table above, own) refl))
    at false h inside rest = (rest.0, (rest.1.0, rw h rest.1.1))

within : (args : List Range) (answer : Range) (table : List (ℕ × ℕ))
    → list_all (λ entry. is_key args entry.0 && is_in answer entry.1) table ≡ true
    → list_all (λ entry. is_in answer entry.1) table ≡ true
within args answer [] e = refl
within args answer (entry ∷ table) e =
    let b = both (is_key args entry.0 && is_in answer entry.1)
    (list_all (λ x. is_key args x.0 && is_in answer x.1) table) e in
    and (is_in answer entry.1) (list_all (λ x. is_in answer x.1) table)
    (both (is_key args entry.0) (is_in answer entry.1) b.0).1 (within args answer table b.1)

-- what a well-formed signature says of its answers
record IsAnswering (sig : Promise) : Type 0 where
  ordered : is_ordered sig.answer ≡ true
  rising : do_keys_rise sig.table ≡ true
  inside : list_all (λ entry. is_in sig.answer entry.1) sig.table ≡ true

answering : (sig : Promise) → IsTrue (is_well_formed sig) → IsAnswering sig
answering sig e =
    let last =
    both _ (list_all (λ entry. is_key sig.args entry.0 && is_in sig.answer entry.1) sig.table) e
    in
    let keys = both _ (do_keys_rise sig.table) last.0 in
    let range = both _ (is_ordered sig.answer) keys.0 in
    record {
      ordered = range.1;
      rising = keys.1;
      inside = within sig.args sig.answer sig.table last.1;
    }

-- some word fits the table at these arguments
agreeing : (sig : Promise) (xs : List ℕ) → IsAnswering sig
    → (word : ℕ) × ((is_in sig.answer word ≡ true) × (agrees sig.table xs word ≡ true))
agreeing sig [] h = (sig.answer.lo, (lowest sig.answer h.ordered, refl))
agreeing sig (first ∷ xs) h = fitting sig.answer sig.table first h.ordered h.rising h.inside

-- a helper that is called within its signature has an answer to give
pub some_promised : (sig : Promise) (xs : List ℕ) → IsTrue (is_well_formed sig)
    → IsTrue (are_in sig.args xs) → (word : ℕ) × IsTrue (is_promised sig xs word)
some_promised sig xs e inside =
    let fit = agreeing sig xs (answering sig e) in
    (fit.0, rw (inside, fit.1.0, fit.1.1) refl)

-- the same, of a helper by its number
pub some_answer : (sigs : List (ℕ × Promise)) (number : ℕ) (xs : List ℕ)
    → IsTrue (are_well_formed sigs) → IsTrue (is_question sigs number xs)
    → (word : ℕ) × IsTrue (is_answer sigs number xs word)
some_answer [] number xs e asked = absurd (cc)
some_answer (entry ∷ sigs) number xs e asked =
    let b = both (is_well_formed entry.1) (list_all (λ x. is_well_formed x.1) sigs) e in
    at (nat_eq entry.0 number) refl b.0 (λ h. some_answer sigs number xs b.1 h)
  where
    at : (t : Bool) → nat_eq entry.0 number ≡ t → IsTrue (is_well_formed entry.1)
        → (IsTrue (is_question sigs number xs)
        → (word : ℕ) × IsTrue (is_answer sigs number xs word))
        → (word : ℕ) × IsTrue (is_answer (entry ∷ sigs) number xs word)
    at true h well rest =
        let call : IsTrue (is_call entry.1 xs) = rw h at asked in
        let fit = some_promised entry.1 xs well (both (are_in entry.1.args xs) _ call).0 in
        (fit.0, rw h fit.1)
    at false h well rest =
        let later : IsTrue (is_question sigs number xs) = rw h at asked in
        let fit = rest later in
        (fit.0, rw h fit.1)
