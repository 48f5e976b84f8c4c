-- A session hears one connection after the other.
use Rattle.std.proofs.Common.{◌≡◌, ℕ, ◌+◌, ◌≤◌, Bool, true, false, ◌==◌, ◌&&◌, not}
use Rattle.std.proofs.Common.{Option, Some, None, is_some, refl, sym, ap, ◌∙◌, arith, subst, List, [], ◌∷◌}
use Rattle.std.proofs.lemmas.Bool.{false≢true, eqb-true, eq-eqb}
use Rattle.acdm_place.specs.declared.events.Event.{Event}
use Rattle.acdm_place.specs.declared.events.Event.TheVariants.{FirstLine, NextAsked, LineTaken, ReplyMade}
use Rattle.acdm_place.specs.declared.events.Event.TheVariants.{LineAnswered, WriteFailed, CloseAsked, Tick}
use Rattle.acdm_place.specs.declared.events.Event.TheVariants.{SessionEnded}
use Rattle.acdm_place.specs.declared.places.Place.{Place}
use Rattle.acdm_place.specs.Turns.{is_of, is_heard, accepts, admits, kept_if, turned, waiting, is_late, after, told}
use Rattle.acdm_place.specs.Past.{past, told_at, one_if, serves, hears, cuts, line_of, heard_of, IsServed}
use Rattle.acdm_place.proofs.Counting.{balanced, once}
use Rattle.acdm_place.proofs.Lines.{none≢some, not_true, asker_is, heard_is, told_served, served_said, taken_heard, left_heard, hand_heard}

-- ---- who is told to be heard

kept_true : (b : Bool) (s : Option ℕ) (n : ℕ) → kept_if b s ≡ Some n → (b ≡ true) × (s ≡ Some n)
kept_true true s n h = (refl, h)
kept_true false s n h = absurd (none≢some n h)

free_and : (o : Option ℕ) (b : Bool) → (not (is_some o) && b) ≡ true → (o ≡ None) × (b ≡ true)
free_and None b h = (refl, h)
free_and (Some n) b h = absurd (false≢true h)

of_some_is : (s : Option ℕ) (n : ℕ) → s ≡ Some n → is_of s n ≡ true
of_some_is s n h = let P : Option ℕ → Type 0 = λ o. is_of o n ≡ true in subst P (sym h) (eq-eqb n n refl)

pub record Turned (p : Place) (e : Event) (n : ℕ) : Type 0 where
  pub event_is : e ≡ NextAsked
  pub served_is : p.served ≡ Some n
  pub free_is : p.asker ≡ None
  pub other_is : not (is_heard p.heard p.served) ≡ true

pub turns : (p : Place) (e : Event) (n : ℕ) → (told p e).hear ≡ Some n → Turned p e n
turns p NextAsked n h =
    let k = kept_true (not (is_some p.asker) && not (is_heard p.heard p.served)) p.served n h in
    let f = free_and p.asker (not (is_heard p.heard p.served)) k.0 in
    record { event_is = refl; served_is = k.1; free_is = f.0; other_is = f.1 }
turns p (FirstLine m w c) n h = absurd (none≢some n h)
turns p (LineTaken m) n h = absurd (none≢some n h)
turns p ReplyMade n h = absurd (none≢some n h)
turns p LineAnswered n h = absurd (none≢some n h)
turns p (WriteFailed m) n h = absurd (none≢some n h)
turns p CloseAsked n h = absurd (none≢some n h)
turns p (Tick ms) n h = absurd (none≢some n h)
turns p SessionEnded n h = absurd (none≢some n h)

pub heard_only : (again : Bool) (J : List Event) (e : Event) (n : ℕ) → (told_at again J e).hear ≡ Some n
    → (e ≡ NextAsked) × IsServed again J n × (line_of again J ≡ None)
heard_only again J e n h =
    let t = turns (past again J) e n h in (
      t.event_is,
      told_served again J n (of_some_is (past again J).served n t.served_is),
      sym (asker_is again J) ∙ t.free_is,
    )

other_heard : (h s : Option ℕ) (n : ℕ) → s ≡ Some n → (h ≡ Some n → ⊥) → is_heard h s ≡ false
other_heard None s n e f = refl
other_heard (Some k) s n e f =
    let P : Option ℕ → Type 0 = λ o. is_of o k ≡ false in
    subst P (sym e) (not_true (n == k) (λ t. f (ap (λ x. Some x) (sym (eqb-true n k t)))))

turn_if : (o : Option ℕ) (m : Bool) (s : Option ℕ) (n : ℕ) → o ≡ None → m ≡ false → s ≡ Some n
    → kept_if (not (is_some o) && not m) s ≡ Some n
turn_if None false s n e f h = h
turn_if None true s n e f h = absurd (false≢true (sym f))
turn_if (Some k) m s n e f h = absurd (none≢some k (sym e))

pub heard_always : (again : Bool) (J : List Event) (n : ℕ) → IsServed again J n → line_of again J ≡ None
    → (heard_of again J ≡ Some n → ⊥) → (told_at again J NextAsked).hear ≡ Some n
heard_always again J n s l f =
    let p = past again J in
    turn_if p.asker (is_heard p.heard p.served) p.served n (asker_is again J ∙ l)
    (other_heard p.heard p.served n (served_said again J n s) (λ h. f (sym (heard_is again J) ∙ h)))
    (served_said again J n s)

-- ---- how often

-- who is heard was told to be served
kept_less : (b : Bool) (s : Option ℕ) (n : ℕ) → one_if (is_of (kept_if b s) n) ≤ one_if (is_of s n)
kept_less true s n = omega arith
kept_less false s n = omega arith

known_same : (h k : Option ℕ) (n s x : ℕ) → k ≡ h → one_if (is_of h n) ≤ s → one_if (is_of k n) ≤ x + s
known_same h k n s x e l =
    let P : Option ℕ → Type 0 = λ o. one_if (is_of o n) ≤ x + s in subst P (sym e) (omega (arith, l))

known_turned : (a m : Bool) (p : Place) (n s : ℕ) → one_if (is_of p.heard n) ≤ s → one_if (is_of p.served n) ≤ s
    → one_if (is_of (turned a m p).heard n) ≤ 0 + s
known_turned true m p n s l k = omega (arith, l)
known_turned false true p n s l k = omega (arith, l)
known_turned false false p n s l k = omega (arith, k)

known_step : (p : Place) (e : Event) (n s : ℕ) → one_if (is_of p.heard n) ≤ s → one_if (is_of p.served n) ≤ s
    → one_if (is_of (after p e).heard n) ≤ one_if (is_of (told p e).serve n) + s
known_step p (FirstLine m w c) n s l k =
    known_same p.heard _ n s _ (taken_heard (accepts p m w c) p m) l
known_step p NextAsked n s l k = known_turned (is_some p.asker) (is_heard p.heard p.served) p n s l k
known_step p (LineTaken m) n s l k = known_same p.heard _ n s _ (hand_heard (admits p m) p m) l
known_step p ReplyMade n s l k = omega (arith, l)
known_step p LineAnswered n s l k =
    known_same p.heard _ n s _ (left_heard p.closing (record p { asker = None })) l
known_step p (WriteFailed m) n s l k = known_same p.heard _ n s _ (left_heard (is_of p.served m) p) l
known_step p CloseAsked n s l k =
    known_same p.heard _ n s _ (left_heard (not (is_some p.asker)) (record p { closing = true })) l
known_step p (Tick ms) n s l k =
    known_same p.heard _ n s _
    (left_heard (is_late p.closing (waiting p.closing p.waited ms))
    (record p { waited = waiting p.closing p.waited ms })) l
known_step p SessionEnded n s l k = omega (arith, l)

known : (again : Bool) (J : List Event) (n : ℕ) → one_if (is_of (past again J).heard n) ≤ serves again J n
known again [] n = omega arith
known again (e ∷ J) n =
    let l : one_if (is_of (past again J).served n) ≤ serves again J n = omega (arith, balanced again J n) in
    known_step (past again J) e n (serves again J n) (known again J n) l

pub heard_served : (again : Bool) (J : List Event) (n : ℕ) → heard_of again J ≡ Some n → serves again J n ≡ 1
heard_served again J n h =
    let i : one_if (is_of (past again J).heard n) ≡ 1 =
    ap one_if (of_some_is (past again J).heard n (heard_is again J ∙ h)) in
    omega (arith, i, known again J n, once again J n)

-- who is heard and not served was not told to be heard just now
apart : (h s : Option ℕ) (n : ℕ) → is_heard h s ≡ false → is_of h n ≡ true → is_of s n ≡ false
apart None s n e f = absurd (false≢true f)
apart (Some k) s n e f = let P : ℕ → Type 0 = λ x. is_of s x ≡ false in subst P (eqb-true k n f) e

-- So often it was told that it is heard: no more often than that it is served, nor than that it is heard now and
-- was cut off.
record Told (h s : Option ℕ) (n hears serves cuts : ℕ) : Type 0 where
  few : hears ≤ serves
  gone : hears ≤ one_if (is_of h n) + cuts
  balance : serves ≡ cuts + one_if (is_of s n)

fresh : (h s : Option ℕ) (n x y z : ℕ) → is_heard h s ≡ false → Told h s n x y z → x ≤ z
fresh h s n x y z e t = go (is_of h n) refl
  where
    go : (b : Bool) → is_of h n ≡ b → x ≤ z
    go true f =
        let i : one_if (is_of s n) ≡ 0 = ap one_if (apart h s n e f) in
        omega (arith, i, t.few, t.balance)
    go false f = let i : one_if (is_of h n) ≡ 0 = ap one_if f in omega (arith, i, t.gone)

gone_same : (h k : Option ℕ) (n x z c : ℕ) → k ≡ h → x ≤ one_if (is_of h n) + z
    → 0 + x ≤ one_if (is_of k n) + (c + z)
gone_same h k n x z c e l =
    let P : Option ℕ → Type 0 = λ o. 0 + x ≤ one_if (is_of o n) + (c + z) in subst P (sym e) (omega (arith, l))

gone_turned : (a m : Bool) (p : Place) (n x y z : ℕ) → is_heard p.heard p.served ≡ m
    → Told p.heard p.served n x y z
    → one_if (is_of (kept_if (not a && not m) p.served) n) + x
    ≤ one_if (is_of (turned a m p).heard n) + (one_if (is_of (kept_if (not a && m) p.served) n) + z)
gone_turned true m p n x y z e t = omega (arith, t.gone)
gone_turned false true p n x y z e t = omega (arith, t.few, t.balance)
gone_turned false false p n x y z e t = omega (arith, fresh p.heard p.served n x y z e t)

gone_step : (p : Place) (e : Event) (n x y z : ℕ) → Told p.heard p.served n x y z
    → one_if (is_of (told p e).hear n) + x
    ≤ one_if (is_of (after p e).heard n) + (one_if (is_of (told p e).cut_off n) + z)
gone_step p (FirstLine m w c) n x y z t =
    gone_same p.heard _ n x z _ (taken_heard (accepts p m w c) p m) t.gone
gone_step p NextAsked n x y z t =
    gone_turned (is_some p.asker) (is_heard p.heard p.served) p n x y z refl t
gone_step p (LineTaken m) n x y z t = gone_same p.heard _ n x z _ (hand_heard (admits p m) p m) t.gone
gone_step p ReplyMade n x y z t = omega (arith, t.gone)
gone_step p LineAnswered n x y z t =
    gone_same p.heard _ n x z _ (left_heard p.closing (record p { asker = None })) t.gone
gone_step p (WriteFailed m) n x y z t = gone_same p.heard _ n x z _ (left_heard (is_of p.served m) p) t.gone
gone_step p CloseAsked n x y z t =
    gone_same p.heard _ n x z _ (left_heard (not (is_some p.asker)) (record p { closing = true })) t.gone
gone_step p (Tick ms) n x y z t =
    gone_same p.heard _ n x z _
    (left_heard (is_late p.closing (waiting p.closing p.waited ms))
    (record p { waited = waiting p.closing p.waited ms })) t.gone
gone_step p SessionEnded n x y z t = omega (arith, t.few, t.balance)

few_turned : (a m : Bool) (p : Place) (n x y z : ℕ) → is_heard p.heard p.served ≡ m
    → Told p.heard p.served n x y z → one_if (is_of (kept_if (not a && not m) p.served) n) + x ≤ 0 + y
few_turned true m p n x y z e t = omega (arith, t.few)
few_turned false true p n x y z e t = omega (arith, t.few)
few_turned false false p n x y z e t = omega (arith, fresh p.heard p.served n x y z e t, t.balance)

few_step : (p : Place) (e : Event) (n x y z : ℕ) → Told p.heard p.served n x y z
    → one_if (is_of (told p e).hear n) + x ≤ one_if (is_of (told p e).serve n) + y
few_step p (FirstLine m w c) n x y z t = omega (arith, t.few)
few_step p NextAsked n x y z t = few_turned (is_some p.asker) (is_heard p.heard p.served) p n x y z refl t
few_step p (LineTaken m) n x y z t = omega (arith, t.few)
few_step p ReplyMade n x y z t = omega (arith, t.few)
few_step p LineAnswered n x y z t = omega (arith, t.few)
few_step p (WriteFailed m) n x y z t = omega (arith, t.few)
few_step p CloseAsked n x y z t = omega (arith, t.few)
few_step p (Tick ms) n x y z t = omega (arith, t.few)
few_step p SessionEnded n x y z t = omega (arith, t.few)

all_told : (again : Bool) (J : List Event) (n : ℕ)
    → Told (past again J).heard (past again J).served n (hears again J n) (serves again J n) (cuts again J n)
all_told again [] n = record { few = omega arith; gone = omega arith; balance = refl }
all_told again (e ∷ J) n =
    let t = all_told again J n in record {
      few = few_step (past again J) e n (hears again J n) (serves again J n) (cuts again J n) t;
      gone = gone_step (past again J) e n (hears again J n) (serves again J n) (cuts again J n) t;
      balance = balanced again (e ∷ J) n;
    }

pub heard_once : (again : Bool) (J : List Event) (n : ℕ) → hears again J n ≤ 1
heard_once again J n = let t = all_told again J n in omega (arith, t.few, once again J n)
