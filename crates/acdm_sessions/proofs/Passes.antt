-- What passes tell of a journal that went on.
use Rattle.std.proofs.Common.{◌≡◌, ℕ, zero, suc, ◌<◌, ◌≤◌, inl, inr, ◌==◌}
use Rattle.std.proofs.Common.{Bool, true, false, not, cond, nat_le, List, [], ◌∷◌, ◌++◌, length, reverse}
use Rattle.std.proofs.Common.{take, drop, refl, sym, ap, subst, ◌∙◌, arith, eq-eqb}
use Rattle.std.specs.Prelude.{slice_get, option_to_list}
use Rattle.std.specs.List.{filter, list_all}
use Rattle.std.proofs.lemmas.Bool.{leb-true}
use Rattle.std.specs.Cmp.{first_so, second_so}
use Rattle.std.proofs.lemmas.List.{take-append-drop}
use Rattle.acdm_milestones.specs.declared.role.Role.{Role}
use Rattle.acdm_step.specs.declared.entry.Entry.{Entry}
use Rattle.acdm_row.specs.Views.{entries_at, AreAbove, AreBelow, AreOf, AreRising, PassView}
use Rattle.acdm_row.proofs.Own.{below_more, entries_more}
use Rattle.acdm_board.specs.Desk.{DeskView, row_of}
use Rattle.acdm_sessions.specs.Passes.{are_from, IsPartOf, IsShown, made_since}

-- ---- numbers from one on

abbrev pub AreFrom : ℕ → List ℕ → Type 0
AreFrom n [] = Unit {0}
AreFrom n (k ∷ ks) = (n ≤ k) × AreFrom n ks

pub froms : (n : ℕ) (ks : List ℕ) → are_from n ks ≡ true → AreFrom n ks
froms n [] h = tt
froms n (k ∷ ks) h =
    let rest = list_all (λ j. nat_le n j) ks in
    (leb-true n k (first_so (nat_le n k) rest h), froms n ks (second_so (nat_le n k) rest h))

-- ---- numbers, each one less

abbrev less : ℕ → ℕ
less zero = zero
less (suc k) = k

abbrev all_less : List ℕ → List ℕ
all_less [] = []
all_less (k ∷ ks) = less k ∷ all_less ks

get_less : (y : Entry) (ys : List Entry) (ks : List ℕ) → AreFrom 1 ks
    → entries_at (y ∷ ys) ks ≡ entries_at ys (all_less ks)
get_less y ys [] h = refl
get_less y ys (zero ∷ ks) h = absurd (omega (arith, h.0))
get_less y ys (suc k ∷ ks) h =
    ap (λ es. option_to_list (slice_get ys k) ++ es) (get_less y ys ks h.1)

from_less : (n : ℕ) (ks : List ℕ) → AreFrom (suc n) ks → AreFrom n (all_less ks)
from_less n [] h = tt
from_less n (zero ∷ ks) h = absurd (omega (arith, h.0))
from_less n (suc k ∷ ks) h = (omega (arith, h.0), from_less n ks h.1)

from_lower : (n m : ℕ) (ks : List ℕ) → m ≤ n → AreFrom n ks → AreFrom m ks
from_lower n m [] le h = tt
from_lower n m (k ∷ ks) le h = (omega (arith, le, h.0), from_lower n m ks le h.1)

from_above : (n : ℕ) (ks : List ℕ) → AreAbove n ks → AreFrom (suc n) ks
from_above n [] h = tt
from_above n (k ∷ ks) h = (omega (arith, h.0), from_above n ks h.1)

below_less : (n : ℕ) (ks : List ℕ) → AreFrom 1 ks → AreBelow (suc n) ks → AreBelow n (all_less ks)
below_less n [] f h = tt
below_less n (zero ∷ ks) f h = absurd (omega (arith, f.0))
below_less n (suc k ∷ ks) f h = (omega (arith, h.0), below_less n ks f.1 h.1)

above_less : (n : ℕ) (ks : List ℕ) → AreAbove (suc n) ks → AreAbove n (all_less ks)
above_less n [] h = tt
above_less n (zero ∷ ks) h = absurd (omega (arith, h.0))
above_less n (suc k ∷ ks) h = (omega (arith, h.0), above_less n ks h.1)

rising_less : (ks : List ℕ) → AreFrom 1 ks → AreRising ks → AreRising (all_less ks)
rising_less [] f h = tt
rising_less (zero ∷ ks) f h = absurd (omega (arith, f.0))
rising_less (suc k ∷ ks) f h = (above_less k ks h.0, rising_less ks f.1 h.1)

-- ---- entries at rising numbers are a part

part_later : (xs : List Entry) (y : Entry) (ys : List Entry) → IsPartOf xs ys
    → IsPartOf xs (y ∷ ys)
part_later [] y ys h = tt
part_later (x ∷ xs) y ys h = inr h

part_at : (ys : List Entry) (ks : List ℕ) → AreRising ks → AreBelow (length ys) ks
    → IsPartOf (entries_at ys ks) ys
part_at [] [] r b = tt
part_at [] (k ∷ ks) r b = absurd (omega (arith, b.0))
part_at (y ∷ ys) [] r b = tt
part_at (y ∷ ys) (zero ∷ ks) r b =
    let from : AreFrom 1 ks = from_above 0 ks r.0 in
    inl (
      refl,
      subst (λ es. IsPartOf es ys) (sym (get_less y ys ks from))
          (part_at ys (all_less ks) (rising_less ks from r.1)
          (below_less (length ys) ks from b.1)),
    )
part_at (y ∷ ys) (suc k ∷ ks) r b =
    let from : AreFrom 1 (suc k ∷ ks) =
    (omega arith, from_lower (suc (suc k)) 1 ks (omega arith) (from_above (suc k) ks r.0)) in
    part_later (entries_at (y ∷ ys) (suc k ∷ ks)) y ys
    (subst (λ es. IsPartOf es ys) (sym (get_less y ys (suc k ∷ ks) from))
    (part_at ys (all_less (suc k ∷ ks)) (rising_less (suc k ∷ ks) from r)
    (below_less (length ys) (suc k ∷ ks) from b)))

part_from : (n : ℕ) (ys : List Entry) (ks : List ℕ) → AreFrom n ks → AreRising ks
    → AreBelow (length ys) ks → IsPartOf (entries_at ys ks) (drop n ys)
part_from zero ys ks f r b = part_at ys ks r b
part_from (suc n) [] [] f r b = tt
part_from (suc n) [] (k ∷ ks) f r b = absurd (omega (arith, b.0))
part_from (suc n) (y ∷ ys) ks f r b =
    let from : AreFrom 1 ks = from_lower (suc n) 1 ks (omega arith) f in
    subst (λ es. IsPartOf es (drop n ys)) (sym (get_less y ys ks from))
    (part_from n ys (all_less ks) (from_less n ks f) (rising_less ks from r)
    (below_less (length ys) ks from b))

-- ---- and so they are a part of those of their session

part_of : (session : ℕ) (role : Role) (xs ys : List Entry) → AreOf session role xs
    → IsPartOf xs ys → IsPartOf xs (filter (λ e. e.session == session) ys)
part_of session role [] ys of h = tt
part_of session role (x ∷ xs) [] of h = absurd h
part_of session role (x ∷ xs) (y ∷ ys) of (inl h) =
    let same : (y.session == session) ≡ true =
    eq-eqb y.session session (sym (ap (λ (e : Entry). e.session) h.0) ∙ of.0) in
    rw same (inl (h.0, part_of session role xs ys of.2 h.1))
part_of session role (x ∷ xs) (y ∷ ys) of (inr h) =
    let rest = filter (λ (e : Entry). e.session == session) ys in
    let later = part_of session role (x ∷ xs) ys of h in
    elim (y.session == session) as (λ b. IsPartOf (x ∷ xs) (cond b (y ∷ rest) rest)) [
      | true ↦ inr later
      | false ↦ later
    ]

-- ---- what a pass has seen

take_short : (m : ℕ) (ys : List Entry) → length (take m ys) ≤ length ys
take_short zero ys = omega arith
take_short (suc m) [] = omega arith
take_short (suc m) (y ∷ ys) = omega (arith, take_short m ys)

entries_taken : (m : ℕ) (ys : List Entry) (ks : List ℕ) → AreBelow (length (take m ys)) ks
    → entries_at (take m ys) ks ≡ entries_at ys ks
entries_taken m ys ks b =
    sym (entries_more (take m ys) (drop m ys) ks b)
    ∙ ap (λ es. entries_at es ks) (take-append-drop m ys)

pub own_part : (start : ℕ) (closed : List Entry) (session : ℕ) (role : Role) (p : PassView)
    → AreFrom start p.numbers → AreRising p.numbers → AreBelow (length p.seen) p.numbers
    → p.own ≡ entries_at p.seen p.numbers → AreOf session role p.own
    → p.seen ≡ take (length p.seen) (reverse closed)
    → IsPartOf p.own (made_since start closed session)
own_part start closed session role p f r b own of begins =
    let ys = reverse closed in
    let m = length p.seen in
    let cut : AreBelow (length (take m ys)) p.numbers =
    subst (λ (es : List Entry). AreBelow (length es) p.numbers) begins b in
    let whole : AreBelow (length ys) p.numbers =
    below_more (length (take m ys)) (length ys) p.numbers cut (take_short m ys) in
    let same : p.own ≡ entries_at ys p.numbers =
    own ∙ ap (λ es. entries_at es p.numbers) begins ∙ entries_taken m ys p.numbers cut in
    part_of session role p.own (drop start ys) of
    (subst (λ es. IsPartOf es (drop start ys)) (sym same)
    (part_from start ys p.numbers f r whole))

not_true : (b : Bool) → not b ≡ true → b ≡ false
not_true b = elim b as (λ v. not v ≡ true → v ≡ false) [
  | true ↦ λ h. sym h
  | false ↦ λ h. refl
]

not_false : (b : Bool) → not b ≡ false → b ≡ true
not_false b = elim b as (λ v. not v ≡ false → v ≡ true) [
  | true ↦ λ h. refl
  | false ↦ λ h. sym h
]

-- a pass that was held against the journal
pub shown : (start : ℕ) (closed : DeskView) (number : ℕ) (role : Role) (calls : ℕ)
    (held : Bool) (old new : PassView) → old.row ≡ row_of closed → old.session ≡ number
    → old.role ≡ role → length old.own ≡ calls → AreFrom start old.numbers → new ≡ old
    → (held ≡ true → old.seen ≡ take (length old.seen) (reverse closed.history))
    → (held ≡ false → length closed.history < length old.seen) → AreRising new.numbers
    → AreBelow (length new.seen) new.numbers → new.own ≡ entries_at new.seen new.numbers
    → AreOf new.session new.role new.own
    → IsShown start closed number role calls (not held) new
shown start closed number role calls held old new row session role_is counted from same begins
    longer rising below own of =
    let of_here : AreOf number role old.own =
    subst (λ (r : Role). AreOf number r old.own) role_is
    (subst (λ n. AreOf n old.role old.own) session
    (subst (λ (p : PassView). AreOf p.session p.role p.own) same of)) in
    subst (λ (p : PassView). IsShown start closed number role calls (not held) p) (sym same)
    (record {
      row = row;
      same_session = session;
      same_role = role_is;
      counted = counted;
      longer = λ h. longer (not_true held h);
      begins = λ h. begins (not_false held h);
      own = λ h.
          own_part start closed.history number role old from
          (subst (λ (p : PassView). AreRising p.numbers) same rising)
          (subst (λ (p : PassView). AreBelow (length p.seen) p.numbers) same below)
          (subst (λ (p : PassView). p.own ≡ entries_at p.seen p.numbers) same own) of_here
          (begins (not_false held h));
    })
