-- What one event does to the line in hand, and to who closes.
use Rattle.std.proofs.Common.{◌≡◌, ℕ, ◌+◌, ◌<◌, ◌≤◌, Bool, true, false, nat_lt, ◌==◌, ◌&&◌, not}
use Rattle.std.proofs.Common.{if◌then◌else◌, Option, Some, None, is_some, refl, sym, ap, ◌∙◌, arith, subst}
use Rattle.std.proofs.Common.{List, [], ◌∷◌}
use Rattle.std.proofs.lemmas.Bool.{false≢true, eqb-true, eq-eqb, leb-true, le-leb, lt-ltb}
use Rattle.acdm_place.specs.declared.events.Event.{Event}
use Rattle.acdm_place.specs.declared.events.Event.TheVariants.{FirstLine, NextAsked, LineTaken, ReplyMade}
use Rattle.acdm_place.specs.declared.events.Event.TheVariants.{LineAnswered, WriteFailed, CloseAsked, Tick}
use Rattle.acdm_place.specs.declared.events.Event.TheVariants.{SessionEnded}
use Rattle.acdm_place.specs.declared.places.Place.{Place}
use Rattle.acdm_place.specs.Turns.{is_of, is_heard, is_open, accepts, taken_by, some_if}
use Rattle.acdm_place.specs.Turns.{admits, in_hand, replied_to, kept_if, left_if, turned, waiting, is_late, after, told}
use Rattle.acdm_place.specs.Past.{past, told_at, one_if, serves, cuts, line_after, line_of, heard_after, heard_of, asked_by, was_asked, passed_by, since, IsServed, MayCut}
use Rattle.acdm_place.proofs.Turning.{accepted}
use Rattle.acdm_place.proofs.Counting.{balanced, once}

pub none≢some : (n : ℕ) → None ≡ Some n → ⊥
none≢some n h = false≢true (ap (λ (o : Option ℕ). is_some o) h)

pub some_same : (m n : ℕ) → Some m ≡ Some n → m ≡ n
some_same m n h = ap (λ (o : Option ℕ). elim o as (λ x. ℕ) [ None ↦ 0 | Some y ↦ y ]) h

pub none_here : (o : Option ℕ) → is_some o ≡ false → o ≡ None
none_here None h = refl
none_here (Some n) h = absurd (false≢true (sym h))

-- ---- the line in hand

taken_asker : (b : Bool) (p : Place) (n : ℕ) → (taken_by b p n).asker ≡ p.asker
taken_asker true p n = refl
taken_asker false p n = refl

left_asker : (b : Bool) (p : Place) → (left_if b p).asker ≡ p.asker
left_asker true p = refl
left_asker false p = refl

turned_asker : (a m : Bool) (p : Place) → (turned a m p).asker ≡ p.asker
turned_asker true m p = refl
turned_asker false true p = refl
turned_asker false false p = refl

hand_asker : (b : Bool) (p : Place) (n : ℕ) → (in_hand b p n).asker ≡ (if b then Some n else p.asker)
hand_asker true p n = refl
hand_asker false p n = refl

pub asker_after : (p : Place) (e : Event) → (after p e).asker ≡ line_after (told p e).admits e p.asker
asker_after p (FirstLine m w c) = taken_asker (accepts p m w c) p m
asker_after p NextAsked = turned_asker (is_some p.asker) (is_heard p.heard p.served) p
asker_after p (LineTaken m) = hand_asker (admits p m) p m
asker_after p SessionEnded = refl
asker_after p (WriteFailed m) = left_asker (is_of p.served m) p
asker_after p ReplyMade = refl
asker_after p LineAnswered = left_asker p.closing (record p { asker = None })
asker_after p CloseAsked = left_asker (not (is_some p.asker)) (record p { closing = true })
asker_after p (Tick ms) =
    left_asker (is_late p.closing (waiting p.closing p.waited ms))
    (record p { waited = waiting p.closing p.waited ms })

pub asker_is : (again : Bool) (J : List Event) → (past again J).asker ≡ line_of again J
asker_is again [] = refl
asker_is again (e ∷ J) =
    asker_after (past again J) e ∙ ap (λ o. line_after (told (past again J) e).admits e o) (asker_is again J)

-- ---- who is heard

pub taken_heard : (b : Bool) (p : Place) (n : ℕ) → (taken_by b p n).heard ≡ p.heard
taken_heard true p n = refl
taken_heard false p n = refl

pub left_heard : (b : Bool) (p : Place) → (left_if b p).heard ≡ p.heard
left_heard true p = refl
left_heard false p = refl

pub hand_heard : (b : Bool) (p : Place) (n : ℕ) → (in_hand b p n).heard ≡ p.heard
hand_heard true p n = refl
hand_heard false p n = refl

turned_heard : (a m : Bool) (p : Place)
    → (turned a m p).heard ≡ (if a then p.heard else kept_if (not a && not m) p.served)
turned_heard true m p = refl
turned_heard false true p = refl
turned_heard false false p = refl

heard_step : (p : Place) (e : Event)
    → (after p e).heard ≡ heard_after (told p e).hear (is_some p.asker) e p.heard
heard_step p (FirstLine m w c) = taken_heard (accepts p m w c) p m
heard_step p NextAsked = turned_heard (is_some p.asker) (is_heard p.heard p.served) p
heard_step p (LineTaken m) = hand_heard (admits p m) p m
heard_step p ReplyMade = refl
heard_step p LineAnswered = left_heard p.closing (record p { asker = None })
heard_step p (WriteFailed m) = left_heard (is_of p.served m) p
heard_step p CloseAsked = left_heard (not (is_some p.asker)) (record p { closing = true })
heard_step p (Tick ms) =
    left_heard (is_late p.closing (waiting p.closing p.waited ms))
    (record p { waited = waiting p.closing p.waited ms })
heard_step p SessionEnded = refl

pub heard_is : (again : Bool) (J : List Event) → (past again J).heard ≡ heard_of again J
heard_is again [] = refl
heard_is again (e ∷ J) =
    heard_step (past again J) e
    ∙ ap (λ o. heard_after (told (past again J) e).hear (is_some o) e (past again J).heard) (asker_is again J)
    ∙ ap (λ h. heard_after (told (past again J) e).hear (is_some (line_of again J)) e h) (heard_is again J)

-- ---- who is served

counted : (s c : ℕ) (b : Bool) → b ≡ true → s ≡ c + one_if b → s ≤ 1 → (s ≡ 1) × (c ≡ 0)
counted s c true h e l = (omega (arith, e, l), omega (arith, e, l))
counted s c false h e l = absurd (false≢true h)

pub told_served : (again : Bool) (J : List Event) (n : ℕ) → is_of (past again J).served n ≡ true → IsServed again J n
told_served again J n h =
    counted (serves again J n) (cuts again J n) (is_of (past again J).served n) h (balanced again J n)
    (once again J n)

back : (s c : ℕ) (b : Bool) → s ≡ c + one_if b → s ≡ 1 → c ≡ 0 → b ≡ true
back s c true e f g = refl
back s c false e f g = absurd (omega (arith, e, f, g))

pub served_told : (again : Bool) (J : List Event) (n : ℕ) → IsServed again J n → is_of (past again J).served n ≡ true
served_told again J n h =
    back (serves again J n) (cuts again J n) (is_of (past again J).served n) (balanced again J n) h.0 h.1

-- ---- replies

who_heard : (a s : Option ℕ) (n : ℕ) → replied_to a s ≡ Some n → (a ≡ Some n) × (is_of s n ≡ true)
who_heard None s n h = absurd (none≢some n h)
who_heard (Some m) s n h = go (is_of s m) refl h
  where
    go : (b : Bool) → is_of s m ≡ b → (if b then Some m else None) ≡ Some n → (Some m ≡ Some n) × (is_of s n ≡ true)
    go true e f =
        let P : ℕ → Type 0 = λ x. is_of s x ≡ true in (f, subst P (some_same m n f) e)
    go false e f = absurd (none≢some n f)

-- a reply goes to whose line is in hand
pub replied : (p : Place) (e : Event) (n : ℕ) → (told p e).hand_on_to ≡ Some n
    → (e ≡ ReplyMade) × (p.asker ≡ Some n) × (is_of p.served n ≡ true)
replied p ReplyMade n h = let a = who_heard p.asker p.served n h in (refl, a.0, a.1)
replied p (FirstLine m w c) n h = absurd (none≢some n h)
replied p NextAsked n h = absurd (none≢some n h)
replied p (LineTaken m) n h = absurd (none≢some n h)
replied p (WriteFailed m) n h = absurd (none≢some n h)
replied p LineAnswered n h = absurd (none≢some n h)
replied p SessionEnded n h = absurd (none≢some n h)
replied p CloseAsked n h = absurd (none≢some n h)
replied p (Tick ms) n h = absurd (none≢some n h)

pub reply_only : (again : Bool) (J : List Event) (e : Event) (n : ℕ) → (told_at again J e).hand_on_to ≡ Some n
    → (e ≡ ReplyMade) × (line_of again J ≡ Some n) × IsServed again J n
reply_only again J e n h =
    let r = replied (past again J) e n h in (r.0, sym (asker_is again J) ∙ r.1, told_served again J n r.2)

heard_if : (a s : Option ℕ) (n : ℕ) → a ≡ Some n → is_of s n ≡ true → replied_to a s ≡ Some n
heard_if a s n e h =
    let P : Option ℕ → Type 0 = λ o. replied_to o s ≡ Some n in
    subst P (sym e) (ap (λ b. if b then Some n else None) h)

pub reply_always : (again : Bool) (J : List Event) (n : ℕ) → line_of again J ≡ Some n → IsServed again J n
    → (told_at again J ReplyMade).hand_on_to ≡ Some n
reply_always again J n l s =
    heard_if (past again J).asker (past again J).served n (asker_is again J ∙ l) (served_told again J n s)

-- ---- lines that are admitted

pub record Admitted (p : Place) (n : ℕ) : Type 0 where
  pub open_is : p.closing ≡ false
  pub free_is : p.asker ≡ None
  pub heard_is : is_of p.heard n ≡ true

pub admitted : (p : Place) (n : ℕ) → admits p n ≡ true → Admitted p n
admitted p n = go p.closing refl (is_some p.asker) refl
  where
    go : (c : Bool) → p.closing ≡ c → (a : Bool) → is_some p.asker ≡ a
        → (if c then false else (if a then false else is_of p.heard n)) ≡ true → Admitted p n
    go false j false k h = record { open_is = j; free_is = none_here p.asker k; heard_is = h }
    go false j true k h = absurd (false≢true h)
    go true j a k h = absurd (false≢true h)

pub admitted_line : (p : Place) (e : Event) → (told p e).admits ≡ true
    → (n : ℕ) × (e ≡ LineTaken n) × Admitted p n
admitted_line p (LineTaken m) h = (m, refl, admitted p m h)
admitted_line p (FirstLine m w c) h = absurd (false≢true h)
admitted_line p NextAsked h = absurd (false≢true h)
admitted_line p ReplyMade h = absurd (false≢true h)
admitted_line p LineAnswered h = absurd (false≢true h)
admitted_line p (WriteFailed m) h = absurd (false≢true h)
admitted_line p CloseAsked h = absurd (false≢true h)
admitted_line p (Tick ms) h = absurd (false≢true h)
admitted_line p SessionEnded h = absurd (false≢true h)

pub some_of : (s : Option ℕ) (n : ℕ) → is_of s n ≡ true → s ≡ Some n
some_of None n h = absurd (false≢true h)
some_of (Some m) n h = ap (λ x. Some x) (eqb-true m n h)

pub line_admitted : (again : Bool) (J : List Event) (e : Event) → (told_at again J e).admits ≡ true
    → (n : ℕ) × (e ≡ LineTaken n) × (heard_of again J ≡ Some n) × (line_of again J ≡ None)
line_admitted again J e h =
    let a = admitted_line (past again J) e h in (
      a.0,
      a.1,
      sym (heard_is again J) ∙ some_of (past again J).heard a.0 a.2.heard_is,
      sym (asker_is again J) ∙ a.2.free_is,
    )

-- ---- closing

taken_closing : (b : Bool) (p : Place) (n : ℕ) → (taken_by b p n).closing ≡ p.closing
taken_closing true p n = refl
taken_closing false p n = refl

left_closing : (b : Bool) (p : Place) → (left_if b p).closing ≡ p.closing
left_closing true p = refl
left_closing false p = refl

turned_closing : (a m : Bool) (p : Place) → (turned a m p).closing ≡ p.closing
turned_closing true m p = refl
turned_closing false true p = refl
turned_closing false false p = refl

hand_closing : (b : Bool) (p : Place) (n : ℕ) → (in_hand b p n).closing ≡ p.closing
hand_closing true p n = refl
hand_closing false p n = refl

pub closing_after : (p : Place) (e : Event) → (after p e).closing ≡ asked_by e p.closing
closing_after p (FirstLine m w c) = taken_closing (accepts p m w c) p m
closing_after p NextAsked = turned_closing (is_some p.asker) (is_heard p.heard p.served) p
closing_after p (LineTaken m) = hand_closing (admits p m) p m
closing_after p SessionEnded = refl
closing_after p (WriteFailed m) = left_closing (is_of p.served m) p
closing_after p ReplyMade = refl
closing_after p LineAnswered = left_closing p.closing (record p { asker = None })
closing_after p CloseAsked = left_closing (not (is_some p.asker)) (record p { closing = true })
closing_after p (Tick ms) =
    left_closing (is_late p.closing (waiting p.closing p.waited ms))
    (record p { waited = waiting p.closing p.waited ms })

pub closing_is : (again : Bool) (J : List Event) → (past again J).closing ≡ was_asked J
closing_is again [] = refl
closing_is again (e ∷ J) = closing_after (past again J) e ∙ ap (λ b. asked_by e b) (closing_is again J)

pub not_true : (b : Bool) → (b ≡ true → ⊥) → b ≡ false
not_true true f = absurd (f refl)
not_true false f = refl

pub none_admitted : (again : Bool) (J : List Event) (e : Event) → was_asked J ≡ true
    → (told_at again J e).admits ≡ false
none_admitted again J e h =
    not_true (told_at again J e).admits (λ a.
    let l = admitted_line (past again J) e a in
    false≢true (sym l.2.open_is ∙ closing_is again J ∙ h))

open_closing : (p : Place) → p.closing ≡ true → is_open p ≡ false
open_closing p h = ap (λ b. if b then false else (if p.again then true else p.newest == 0)) h

no_serve : (b : Bool) (n : ℕ) → (b ≡ true → ⊥) → some_if b n ≡ None
no_serve true n f = absurd (f refl)
no_serve false n f = refl

nobody_taken : (p : Place) (e : Event) → p.closing ≡ true → (told p e).serve ≡ None
nobody_taken p (FirstLine m w c) h =
    no_serve (accepts p m w c) m (λ a. false≢true (sym (open_closing p h) ∙ (accepted p m w c a).open_is))
nobody_taken p NextAsked h = refl
nobody_taken p (LineTaken m) h = refl
nobody_taken p SessionEnded h = refl
nobody_taken p (WriteFailed m) h = refl
nobody_taken p ReplyMade h = refl
nobody_taken p LineAnswered h = refl
nobody_taken p CloseAsked h = refl
nobody_taken p (Tick ms) h = refl

pub no_newcomer : (again : Bool) (J : List Event) (e : Event) → was_asked J ≡ true
    → (told_at again J e).serve ≡ None
no_newcomer again J e h = nobody_taken (past again J) e (closing_is again J ∙ h)

-- ---- who may be cut off

kept_true : (b : Bool) (s : Option ℕ) (n : ℕ) → kept_if b s ≡ Some n → (b ≡ true) × (s ≡ Some n)
kept_true true s n h = (refl, h)
kept_true false s n h = absurd (none≢some n h)

of_some : (s : Option ℕ) (m n : ℕ) → is_of s m ≡ true → s ≡ Some n → m ≡ n
of_some None m n h e = absurd (none≢some n e)
of_some (Some k) m n h e = sym (eqb-true k m h) ∙ some_same k n e

not_free : (a m : Bool) → a ≡ true → (not a && m) ≡ true → ⊥
not_free true m e f = false≢true f
not_free false m e f = false≢true e

late : (c : Bool) (t : ℕ) → is_late c t ≡ true → (c ≡ true) × (5000 ≤ t)
late true t h = (refl, leb-true 5000 t h)
late false t h = absurd (false≢true h)

left_waited : (b : Bool) (p : Place) → (left_if b p).waited ≡ p.waited
left_waited true p = refl
left_waited false p = refl

waited_here : (q t s : ℕ) → q ≡ t → t ≤ s → q ≤ s
waited_here q t s e l = omega (arith, e, l)

waited_more : (c : Bool) (t s ms : ℕ) → t ≤ s → waiting c t ms ≤ (if c then s + ms else s)
waited_more true t s ms l = omega (arith, l)
waited_more false t s ms l = l

waited_after : (p : Place) (e : Event) (c : Bool) (s : ℕ) → p.closing ≡ c → p.waited ≤ s
    → (after p e).waited ≤ passed_by e c s
waited_after p (FirstLine m w k) c s d h = waited_here _ _ s (go (accepts p m w k)) h
  where
    go : (b : Bool) → (taken_by b p m).waited ≡ p.waited
    go true = refl
    go false = refl
waited_after p (LineTaken m) c s d h = waited_here _ _ s (go (admits p m)) h
  where
    go : (b : Bool) → (in_hand b p m).waited ≡ p.waited
    go true = refl
    go false = refl
waited_after p NextAsked c s d h =
    waited_here _ _ s (go (is_some p.asker) (is_heard p.heard p.served)) h
  where
    go : (a m : Bool) → (turned a m p).waited ≡ p.waited
    go true m = refl
    go false true = refl
    go false false = refl
waited_after p SessionEnded c s d h = h
waited_after p (WriteFailed m) c s d h = waited_here _ _ s (left_waited (is_of p.served m) p) h
waited_after p ReplyMade c s d h = h
waited_after p LineAnswered c s d h =
    waited_here _ _ s (left_waited p.closing (record p { asker = None })) h
waited_after p CloseAsked c s d h =
    waited_here _ _ s (left_waited (not (is_some p.asker)) (record p { closing = true })) h
waited_after p (Tick ms) c s d h =
    let P : Bool → Type 0 = λ b. waiting p.closing p.waited ms ≤ (if b then s + ms else s) in
    waited_here _ (waiting p.closing p.waited ms) _
    (left_waited (is_late p.closing (waiting p.closing p.waited ms))
    (record p { waited = waiting p.closing p.waited ms }))
    (subst P d (waited_more p.closing p.waited s ms h))

waited_since : (again : Bool) (J : List Event) → (past again J).waited ≤ since J
waited_since again [] = omega arith
waited_since again (e ∷ J) =
    waited_after (past again J) e (was_asked J) (since J) (closing_is again J) (waited_since again J)

waiting_at_most : (c : Bool) (t ms : ℕ) → waiting c t ms ≤ t + ms
waiting_at_most true t ms = omega arith
waiting_at_most false t ms = omega arith

not_some : (p : Place) (n : ℕ) → p.asker ≡ Some n → not (is_some p.asker) ≡ true → ⊥
not_some p n a h = false≢true (sym (ap (λ (o : Option ℕ). not (is_some o)) a) ∙ h)

pub may_cut : (again : Bool) (J : List Event) (e : Event) (n : ℕ) → line_of again J ≡ Some n
    → (told_at again J e).cut_off ≡ Some n → MayCut e J n
may_cut again J e n l = go e
  where
    asked : (past again J).asker ≡ Some n
    asked = asker_is again J ∙ l

    go : (e : Event) → (told_at again J e).cut_off ≡ Some n → MayCut e J n
    go (FirstLine m w c) h =
        let k = kept_true (accepts (past again J) m w c) (past again J).served n h in
        let a = accepted (past again J) m w c k.0 in
        (a.whole_is, a.command_is)
    go (WriteFailed m) h =
        let k = kept_true (is_of (past again J).served m) (past again J).served n h in
        of_some (past again J).served m n k.0 k.1
    go LineAnswered h = tt
    go SessionEnded h = tt
    go (Tick ms) h =
        let k = kept_true (is_late (past again J).closing (waiting (past again J).closing (past again J).waited ms))
        (past again J).served n h in
        let p = past again J in
        let l = late p.closing (waiting p.closing p.waited ms) k.0 in (
          sym (closing_is again J) ∙ l.0,
          omega (arith, l.1, waiting_at_most p.closing p.waited ms, waited_since again J),
        )
    go (LineTaken m) h = none≢some n h
    go NextAsked h =
        let p = past again J in
        let k = kept_true (not (is_some p.asker) && is_heard p.heard p.served) p.served n h in
        not_free (is_some p.asker) (is_heard p.heard p.served) (ap (λ (o : Option ℕ). is_some o) asked) k.0
    go ReplyMade h = none≢some n h
    go CloseAsked h =
        let k = kept_true (not (is_some (past again J).asker)) (past again J).served n h in
        not_some (past again J) n asked k.0

-- ---- what the place says

of_some_is : (s : Option ℕ) (n : ℕ) → s ≡ Some n → is_of s n ≡ true
of_some_is s n h =
    let P : Option ℕ → Type 0 = λ o. is_of o n ≡ true in subst P (sym h) (eq-eqb n n refl)

pub said_served : (again : Bool) (J : List Event) (n : ℕ) → (past again J).served ≡ Some n → IsServed again J n
said_served again J n h = told_served again J n (of_some_is (past again J).served n h)

pub served_said : (again : Bool) (J : List Event) (n : ℕ) → IsServed again J n → (past again J).served ≡ Some n
served_said again J n h = some_of (past again J).served n (served_told again J n h)

-- ---- what is done

admits_if : (p : Place) (n : ℕ) → p.heard ≡ Some n → p.asker ≡ None → p.closing ≡ false
    → admits p n ≡ true
admits_if p n s a c =
    ap (λ b. if b then false else (if is_some p.asker then false else is_of p.heard n)) c
    ∙ ap (λ (o : Option ℕ). if is_some o then false else is_of p.heard n) a
    ∙ of_some_is p.heard n s

pub line_taken : (again : Bool) (J : List Event) (n : ℕ) → heard_of again J ≡ Some n → line_of again J ≡ None
    → was_asked J ≡ false → (told_at again J (LineTaken n)).admits ≡ true
line_taken again J n s l w =
    admits_if (past again J) n (heard_is again J ∙ s) (asker_is again J ∙ l) (closing_is again J ∙ w)

kept_here : (b : Bool) (s : Option ℕ) (n : ℕ) → b ≡ true → s ≡ Some n → kept_if b s ≡ Some n
kept_here true s n h e = e
kept_here false s n h e = absurd (false≢true h)

both : (a b : Bool) → a ≡ true → b ≡ true → (a && b) ≡ true
both true true h i = refl
both false b h i = absurd (false≢true h)
both true false h i = absurd (false≢true i)

free : (again : Bool) (J : List Event) → line_of again J ≡ None → not (is_some (past again J).asker) ≡ true
free again J l = ap (λ (o : Option ℕ). not (is_some o)) (asker_is again J ∙ l)

heard_served : (h s : Option ℕ) (n : ℕ) → h ≡ Some n → is_of s n ≡ true → is_heard h s ≡ true
heard_served h s n e i = let P : Option ℕ → Type 0 = λ o. is_heard o s ≡ true in subst P (sym e) i

pub ended_cut : (again : Bool) (J : List Event) (n : ℕ) → IsServed again J n → heard_of again J ≡ Some n
    → line_of again J ≡ None → (told_at again J NextAsked).cut_off ≡ Some n
ended_cut again J n s h l =
    let p = past again J in
    kept_here (not (is_some p.asker) && is_heard p.heard p.served) p.served n
    (both _ _ (free again J l) (heard_served p.heard p.served n (heard_is again J ∙ h) (served_told again J n s)))
    (served_said again J n s)

pub failed_cut : (again : Bool) (J : List Event) (n : ℕ) → IsServed again J n
    → (told_at again J (WriteFailed n)).cut_off ≡ Some n
failed_cut again J n s =
    kept_here (is_of (past again J).served n) (past again J).served n (served_told again J n s)
    (served_said again J n s)

pub closed_cut : (again : Bool) (J : List Event) (n : ℕ) → IsServed again J n → line_of again J ≡ None
    → (told_at again J CloseAsked).cut_off ≡ Some n
closed_cut again J n s l =
    kept_here (not (is_some (past again J).asker)) (past again J).served n (free again J l)
    (served_said again J n s)

pub answered_cut : (again : Bool) (J : List Event) (n : ℕ) → IsServed again J n → was_asked J ≡ true
    → (told_at again J LineAnswered).cut_off ≡ Some n
answered_cut again J n s w =
    kept_here (past again J).closing (past again J).served n (closing_is again J ∙ w) (served_said again J n s)

is_late_if : (c : Bool) (t ms : ℕ) → c ≡ true → 5000 ≤ ms → is_late c (waiting c t ms) ≡ true
is_late_if true t ms h l = le-leb 5000 (waiting true t ms) (omega (arith, l))
is_late_if false t ms h l = absurd (false≢true h)

pub late_cut : (again : Bool) (J : List Event) (n ms : ℕ) → IsServed again J n → was_asked J ≡ true → 5000 ≤ ms
    → (told_at again J (Tick ms)).cut_off ≡ Some n
late_cut again J n ms s w l =
    kept_here (is_late (past again J).closing (waiting (past again J).closing (past again J).waited ms))
    (past again J).served n
    (is_late_if (past again J).closing (past again J).waited ms (closing_is again J ∙ w) l)
    (served_said again J n s)

-- ---- newcomers

not_accepted : (p : Place) (n : ℕ) (w c : Bool) → (w && c) ≡ false → accepts p n w c ≡ false
not_accepted p n w c h = not_true (accepts p n w c) (λ a.
    let r = accepted p n w c a in false≢true (sym h ∙ both w c r.whole_is r.command_is))

refused_now : (b k : Bool) (n : ℕ) → b ≡ false → k ≡ false → some_if (not b && not k) n ≡ Some n
refused_now false false n h i = refl
refused_now true k n h i = absurd (false≢true (sym h))
refused_now false true n h i = absurd (false≢true (sym i))

pub newcomer_refused : (again : Bool) (J : List Event) (n : ℕ) (w c : Bool) → (w && c) ≡ false
    → (IsServed again J n → ⊥) → (told_at again J (FirstLine n w c)).refuse ≡ Some n
newcomer_refused again J n w c h f =
    refused_now (accepts (past again J) n w c) (is_of (past again J).served n) n
    (not_accepted (past again J) n w c h)
    (not_true (is_of (past again J).served n) (λ s. f (told_served again J n s)))

pub newcomer_same : (again : Bool) (J : List Event) (n : ℕ) (w c : Bool) → (w && c) ≡ false
    → past again (FirstLine n w c ∷ J) ≡ past again J
newcomer_same again J n w c h =
    ap (λ b. taken_by b (past again J) n) (not_accepted (past again J) n w c h)

pub newcomer_stays : (again : Bool) (J : List Event) (n : ℕ) (w c : Bool) → (w && c) ≡ false
    → (told_at again J (FirstLine n w c)).cut_off ≡ None
newcomer_stays again J n w c h =
    ap (λ b. kept_if b (past again J).served) (not_accepted (past again J) n w c h)

pub accepts_if : (p : Place) (n : ℕ) → is_open p ≡ true → p.newest < n → accepts p n true true ≡ true
accepts_if p n o l = ap (λ b. if b then nat_lt p.newest n else false) o ∙ lt-ltb p.newest n l

pub refused_is : (b k : Bool) (m n : ℕ) → some_if (not b && not k) m ≡ Some n → (m ≡ n) × (k ≡ false)
refused_is false false m n h = (some_same m n h, refl)
refused_is false true m n h = absurd (none≢some n h)
refused_is true k m n h = absurd (none≢some n h)
