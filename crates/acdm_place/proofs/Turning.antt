-- What one event does to the counts.
use Rattle.std.proofs.Common.{◌≡◌, ℕ, ◌+◌, ◌<◌, ◌≤◌, Bool, true, false, nat_le, nat_lt, ◌==◌, ◌&&◌, not}
use Rattle.std.proofs.Common.{if◌then◌else◌, Option, Some, None, is_some, refl, sym, ap, ◌∙◌, arith, subst}
use Rattle.std.proofs.lemmas.Bool.{false≢true, leb-true, le-leb, eqb-true, ltb-true}
use Rattle.acdm_place.specs.declared.events.Event.{Event}
use Rattle.acdm_place.specs.declared.events.Event.TheVariants.{FirstLine, NextAsked, LineTaken, ReplyMade}
use Rattle.acdm_place.specs.declared.events.Event.TheVariants.{LineAnswered, WriteFailed, CloseAsked, Tick}
use Rattle.acdm_place.specs.declared.events.Event.TheVariants.{SessionEnded}
use Rattle.acdm_place.specs.declared.places.Place.{Place}
use Rattle.acdm_place.specs.Turns.{is_of, is_heard, is_open, accepts, taken_by, some_if}
use Rattle.acdm_place.specs.Turns.{admits, in_hand, kept_if, left_if, turned, finished, waiting, is_late, after, told}
use Rattle.acdm_place.specs.Past.{one_if}

-- ---- who was told to be served, and who was cut off

cut_here : (b : Bool) (p : Place) (n : ℕ)
    → 0 + one_if (is_of p.served n) ≡ one_if (is_of (kept_if b p.served) n) + one_if (is_of (left_if b p).served n)
cut_here true p n = omega arith
cut_here false p n = omega arith

judge_here : (b : Bool) (p : Place) (m n : ℕ)
    → one_if (is_of (some_if b m) n) + one_if (is_of p.served n)
    ≡ one_if (is_of (kept_if b p.served) n) + one_if (is_of (taken_by b p m).served n)
judge_here true p m n = omega arith
judge_here false p m n = omega arith

admit_here : (b : Bool) (p : Place) (m n : ℕ)
    → 0 + one_if (is_of p.served n) ≡ 0 + one_if (is_of (in_hand b p m).served n)
admit_here true p m n = refl
admit_here false p m n = refl

turn_here : (a m : Bool) (p : Place) (n : ℕ)
    → 0 + one_if (is_of p.served n) ≡ one_if (is_of (kept_if (not a && m) p.served) n) + one_if (is_of (turned a m p).served n)
turn_here true m p n = refl
turn_here false true p n = omega arith
turn_here false false p n = refl

-- who is served after an event was so before, or was just told to be, and was not cut off
pub balance : (p : Place) (e : Event) (n : ℕ)
    → one_if (is_of (told p e).serve n) + one_if (is_of p.served n)
    ≡ one_if (is_of (told p e).cut_off n) + one_if (is_of (after p e).served n)
balance p (FirstLine m w c) n = judge_here (accepts p m w c) p m n
balance p NextAsked n = turn_here (is_some p.asker) (is_heard p.heard p.served) p n
balance p (LineTaken m) n = admit_here (admits p m) p m n
balance p (WriteFailed m) n = cut_here (is_of p.served m) p n
balance p ReplyMade n = refl
balance p LineAnswered n = cut_here p.closing (record p { asker = None }) n
balance p SessionEnded n = cut_here true (finished p) n
balance p CloseAsked n = cut_here (not (is_some p.asker)) (record p { closing = true }) n
balance p (Tick ms) n =
    cut_here (is_late p.closing (waiting p.closing p.waited ms))
    (record p { waited = waiting p.closing p.waited ms }) n

-- ---- the newest

newer : (a b c : Bool) (m n k : ℕ) → (a ≡ true → m ≡ n) → (b ≡ true → n ≤ k) → (n ≤ m → c ≡ true) → k < m
    → one_if a + one_if b ≤ one_if c
newer true true c m n k f g h l = omega (arith, f refl, g refl)
newer true false true m n k f g h l = omega arith
newer true false false m n k f g h l =
    let e : m ≡ n = f refl in let le : n ≤ m = omega arith in absurd (false≢true (h le))
newer false true true m n k f g h l = omega arith
newer false true false m n k f g h l =
    let e : n ≤ k = g refl in let le : n ≤ m = omega arith in absurd (false≢true (h le))
newer false false c m n k f g h l = omega arith

judge_newer : (b : Bool) (p : Place) (m n : ℕ) → (b ≡ true → p.newest < m)
    → one_if (is_of (some_if b m) n) + one_if (nat_le n p.newest) ≤ one_if (nat_le n (taken_by b p m).newest)
judge_newer true p m n l =
    newer (m == n) (nat_le n p.newest) (nat_le n m) m n p.newest (eqb-true m n) (leb-true n p.newest)
    (le-leb n m) (l refl)
judge_newer false p m n l = omega arith

-- what is accepted is newer, whole and a command, where newcomers are served
pub record Accepted (p : Place) (n : ℕ) (w c : Bool) : Type 0 where
  pub open_is : is_open p ≡ true
  pub whole_is : w ≡ true
  pub command_is : c ≡ true
  pub newer_is : p.newest < n

pub accepted : (p : Place) (n : ℕ) (w c : Bool) → accepts p n w c ≡ true → Accepted p n w c
accepted p n w c = go (is_open p) refl w refl c refl
  where
    go : (o : Bool) → is_open p ≡ o → (v : Bool) → w ≡ v → (d : Bool) → c ≡ d
        → (if o then (if v then (if d then nat_lt p.newest n else false) else false) else false) ≡ true
        → Accepted p n w c
    go true i true j true k h = record {
      open_is = i;
      whole_is = j;
      command_is = k;
      newer_is = ltb-true p.newest n h;
    }
    go true i true j false k h = absurd (false≢true h)
    go true i false j d k h = absurd (false≢true h)
    go false i v j d k h = absurd (false≢true h)

same_newest : (b : Bool) (p : Place) → (left_if b p).newest ≡ p.newest
same_newest true p = refl
same_newest false p = refl

turned_newest : (a m : Bool) (p : Place) → (turned a m p).newest ≡ p.newest
turned_newest true m p = refl
turned_newest false true p = refl
turned_newest false false p = refl

in_hand_newest : (b : Bool) (p : Place) (n : ℕ) → (in_hand b p n).newest ≡ p.newest
in_hand_newest true p n = refl
in_hand_newest false p n = refl

as_before : (n k l : ℕ) → l ≡ k → 0 + one_if (nat_le n k) ≤ one_if (nat_le n l)
as_before n k l e = let P : ℕ → Type 0 = λ x. 0 + one_if (nat_le n k) ≤ one_if (nat_le n x) in
    subst P (sym e) (omega arith)

pub newest_grows : (p : Place) (e : Event) (n : ℕ)
    → one_if (is_of (told p e).serve n) + one_if (nat_le n p.newest) ≤ one_if (nat_le n (after p e).newest)
newest_grows p (FirstLine m w c) n =
    judge_newer (accepts p m w c) p m n (λ h. (accepted p m w c h).newer_is)
newest_grows p NextAsked n = as_before n _ _ (turned_newest (is_some p.asker) (is_heard p.heard p.served) p)
newest_grows p (LineTaken m) n = as_before n _ _ (in_hand_newest (admits p m) p m)
newest_grows p SessionEnded n = omega arith
newest_grows p (WriteFailed m) n = as_before n _ _ (same_newest (is_of p.served m) p)
newest_grows p ReplyMade n = omega arith
newest_grows p LineAnswered n =
    as_before n _ _ (same_newest p.closing (record p { asker = None }))
newest_grows p CloseAsked n =
    as_before n _ _ (same_newest (not (is_some p.asker)) (record p { closing = true }))
newest_grows p (Tick ms) n =
    as_before n _ _ (same_newest (is_late p.closing (waiting p.closing p.waited ms))
    (record p { waited = waiting p.closing p.waited ms }))

-- ---- who is served is the newest

-- nobody is, or the newest
pub data IsOne : Option ℕ → ℕ → Type 0 where
  none_is : (k : ℕ) → IsOne None k
  newest_is : (k : ℕ) → IsOne (Some k) k

one_left : (b : Bool) (p : Place) → IsOne p.served p.newest → IsOne (left_if b p).served (left_if b p).newest
one_left true p h = none_is p.newest
one_left false p h = h

one_judged : (b : Bool) (p : Place) (m : ℕ) → IsOne p.served p.newest
    → IsOne (taken_by b p m).served (taken_by b p m).newest
one_judged true p m h = newest_is m
one_judged false p m h = h

one_turned : (a m : Bool) (p : Place) → IsOne p.served p.newest → IsOne (turned a m p).served (turned a m p).newest
one_turned true m p h = h
one_turned false true p h = none_is p.newest
one_turned false false p h = h

one_in_hand : (b : Bool) (p : Place) (m : ℕ) → IsOne p.served p.newest
    → IsOne (in_hand b p m).served (in_hand b p m).newest
one_in_hand true p m h = h
one_in_hand false p m h = h

pub one_after : (p : Place) (e : Event) → IsOne p.served p.newest → IsOne (after p e).served (after p e).newest
one_after p (FirstLine m w c) h = one_judged (accepts p m w c) p m h
one_after p NextAsked h = one_turned (is_some p.asker) (is_heard p.heard p.served) p h
one_after p (LineTaken m) h = one_in_hand (admits p m) p m h
one_after p SessionEnded h = none_is p.newest
one_after p (WriteFailed m) h = one_left (is_of p.served m) p h
one_after p ReplyMade h = h
one_after p LineAnswered h = one_left p.closing (record p { asker = None }) h
one_after p CloseAsked h = one_left (not (is_some p.asker)) (record p { closing = true }) h
one_after p (Tick ms) h =
    one_left (is_late p.closing (waiting p.closing p.waited ms))
    (record p { waited = waiting p.closing p.waited ms }) h

none≢some : (n : ℕ) → None ≡ Some n → ⊥
none≢some n h = false≢true (ap (λ (o : Option ℕ). is_some o) h)

serve_judged : (b : Bool) (p : Place) (m : ℕ) (w c : Bool) (n : ℕ) → (b ≡ true → Accepted p m w c)
    → some_if b m ≡ Some n → FirstLine m w c ≡ FirstLine n true true
serve_judged true p m w c n f h =
    let a = f refl in
    let e : m ≡ n = some_same m n h in
    ap (λ x. FirstLine x w c) e ∙ ap (λ x. FirstLine n x c) a.whole_is ∙ ap (λ x. FirstLine n true x) a.command_is
  where
    some_same : (m n : ℕ) → Some m ≡ Some n → m ≡ n
    some_same m n h = ap (λ (o : Option ℕ). elim o as (λ x. ℕ) [ None ↦ 0 | Some y ↦ y ]) h
serve_judged false p m w c n f h = absurd (none≢some n h)

-- who is told to be served came by its first line
pub served_by_line : (p : Place) (e : Event) (n : ℕ) → (told p e).serve ≡ Some n → e ≡ FirstLine n true true
served_by_line p (FirstLine m w c) n h = serve_judged (accepts p m w c) p m w c n (accepted p m w c) h
served_by_line p NextAsked n h = absurd (none≢some n h)
served_by_line p (LineTaken m) n h = absurd (none≢some n h)
served_by_line p (WriteFailed m) n h = absurd (none≢some n h)
served_by_line p ReplyMade n h = absurd (none≢some n h)
served_by_line p LineAnswered n h = absurd (none≢some n h)
served_by_line p SessionEnded n h = absurd (none≢some n h)
served_by_line p CloseAsked n h = absurd (none≢some n h)
served_by_line p (Tick ms) n h = absurd (none≢some n h)
