-- When a session is over.
use Rattle.std.proofs.Common.{◌≡◌, ℕ, ◌+◌, ◌<◌, ◌≤◌, Bool, true, false, nat_le, ◌==◌, ◌&&◌, not}
use Rattle.std.proofs.Common.{if◌then◌else◌, Option, Some, None, is_some, refl, sym, ap, ◌∙◌, arith, subst, ◌⊎◌, inl, inr}
use Rattle.std.proofs.Common.{List, [], ◌∷◌}
use Rattle.std.proofs.lemmas.Bool.{false≢true, eqb-true, eq-eqb, leb-true}
use Rattle.acdm_place.specs.declared.events.Event.{Event}
use Rattle.acdm_place.specs.declared.events.Event.TheVariants.{FirstLine, NextAsked, LineTaken, ReplyMade}
use Rattle.acdm_place.specs.declared.events.Event.TheVariants.{LineAnswered, WriteFailed, CloseAsked, Tick}
use Rattle.acdm_place.specs.declared.events.Event.TheVariants.{SessionEnded}
use Rattle.acdm_place.specs.declared.places.Place.{Place}
use Rattle.acdm_place.specs.Turns.{is_of, is_heard, is_open, is_over, accepts, taken_by, some_if, kept_if}
use Rattle.acdm_place.specs.Turns.{admits, in_hand, left_if, turned, waiting, is_late, after, told}
use Rattle.acdm_place.specs.Past.{past, told_at, one_if, serves, cuts, line_of, heard_of, was_asked, IsServed}
use Rattle.acdm_place.proofs.Turning.{Accepted, accepted, IsOne, none_is, newest_is}
use Rattle.acdm_place.proofs.Counting.{balanced, once, bounded, is_one, cut_once}
use Rattle.acdm_place.proofs.Lines.{none_here, asker_is, heard_is, closing_is, admitted, not_true, none≢some, refused_is, accepts_if, served_said, served_told}

-- the one connection of a place without `again` is gone
abbrev IsGone : Place → Type 0
IsGone p = (p.again ≡ false) × ((p.newest == 0) ≡ false) × (p.served ≡ None) × (p.heard ≡ None)

abbrev IsOver : Place → Type 0
IsOver p = (p.asker ≡ None) × ((p.closing ≡ true) ⊎ IsGone p)

not_not : (o : Option ℕ) → not (is_some o) ≡ true → o ≡ None
not_not None h = refl
not_not (Some n) h = absurd (false≢true h)

-- neither served nor heard
abbrev nobody_here : Option ℕ → Option ℕ → Bool
nobody_here s h = if is_some s then false else not (is_some h)

both_gone : (s h : Option ℕ) → nobody_here s h ≡ true → (s ≡ None) × (h ≡ None)
both_gone None h e = (refl, not_not h e)
both_gone (Some n) h e = absurd (false≢true e)

pub over_is : (p : Place) → is_over p ≡ true → IsOver p
over_is p = go (is_some p.asker) refl p.closing refl p.again refl (p.newest == 0) refl
  where
    go : (a : Bool) → is_some p.asker ≡ a → (c : Bool) → p.closing ≡ c → (g : Bool) → p.again ≡ g
        → (z : Bool) → (p.newest == 0) ≡ z
        → (if a then false else (if c then true else (if g then false else
        (if z then false else nobody_here p.served p.heard)))) ≡ true → IsOver p
    go true i c j g k z l h = absurd (false≢true h)
    go false i true j g k z l h = (none_here p.asker i, inl j)
    go false i false j true k z l h = absurd (false≢true h)
    go false i false j false k true l h = absurd (false≢true h)
    go false i false j false k false l h =
        let b = both_gone p.served p.heard h in (none_here p.asker i, inr (k, l, b.0, b.1))

is_over_if : (p : Place) → IsOver p → is_over p ≡ true
is_over_if p o = go p.asker o.0 o.1
  where
    none_gone : (s h : Option ℕ) → s ≡ None → h ≡ None → nobody_here s h ≡ true
    none_gone None None e f = refl
    none_gone (Some n) h e f = absurd (none≢some n (sym e))
    none_gone None (Some n) e f = absurd (none≢some n (sym f))

    gone : (c : Bool) → IsGone p → (if c then true else (if p.again then false else
        (if p.newest == 0 then false else nobody_here p.served p.heard))) ≡ true
    gone true g = refl
    gone false g =
        ap (λ b. if b then false else (if p.newest == 0 then false else nobody_here p.served p.heard)) g.0
        ∙ ap (λ b. if b then false else nobody_here p.served p.heard) g.1
        ∙ none_gone p.served p.heard g.2 g.3

    go : (a : Option ℕ) → a ≡ None → (p.closing ≡ true) ⊎ IsGone p
        → (if is_some a then false else (if p.closing then true else (if p.again then false else
        (if p.newest == 0 then false else nobody_here p.served p.heard)))) ≡ true
    go (Some n) e w = absurd (false≢true (sym (ap (λ (o : Option ℕ). is_some o) e)))
    go None e (inl c) = ap (λ b. if b then true else (if p.again then false else
        (if p.newest == 0 then false else nobody_here p.served p.heard))) c
    go None e (inr g) = gone p.closing g

left_over : (b : Bool) (p : Place) → IsOver p → IsOver (left_if b p)
left_over true p o = (o.0, go o.1)
  where
    go : (p.closing ≡ true) ⊎ IsGone p
        → (p.closing ≡ true) ⊎ IsGone (left_if true p)
    go (inl c) = inl c
    go (inr g) = inr (g.0, g.1, refl, g.3)
left_over false p o = o

turned_over : (a m : Bool) (p : Place) → IsOver p → IsOver (turned a m p)
turned_over true m p o = o
turned_over false true p o = (o.0, go o.1)
  where
    go : (p.closing ≡ true) ⊎ IsGone p → (p.closing ≡ true) ⊎ IsGone (turned false true p)
    go (inl c) = inl c
    go (inr g) = inr (g.0, g.1, refl, refl)
turned_over false false p o = (o.0, go o.1)
  where
    go : (p.closing ≡ true) ⊎ IsGone p → (p.closing ≡ true) ⊎ IsGone (turned false false p)
    go (inl c) = inl c
    go (inr g) = inr (g.0, g.1, g.2, g.2)

not_open : (p : Place) → (p.closing ≡ true) ⊎ IsGone p → is_open p ≡ true → ⊥
not_open p (inl c) h =
    false≢true (sym (ap (λ b. if b then false else (if p.again then true else p.newest == 0)) c) ∙ h)
not_open p (inr g) h = go p.closing h
  where
    go : (c : Bool) → (if c then false else (if p.again then true else p.newest == 0)) ≡ true → ⊥
    go true f = false≢true f
    go false f = false≢true (sym (ap (λ b. if b then true else p.newest == 0) g.0 ∙ g.1) ∙ f)

taken_over : (b : Bool) (p : Place) (n : ℕ) → (b ≡ true → ⊥) → IsOver p → IsOver (taken_by b p n)
taken_over true p n f o = absurd (f refl)
taken_over false p n f o = o

hand_over : (b : Bool) (p : Place) (n : ℕ) → (b ≡ true → ⊥) → IsOver p → IsOver (in_hand b p n)
hand_over true p n f o = absurd (f refl)
hand_over false p n f o = o

not_admitted : (p : Place) (n : ℕ) → (p.closing ≡ true) ⊎ IsGone p → admits p n ≡ true → ⊥
not_admitted p n (inl c) h = false≢true (sym (admitted p n h).open_is ∙ c)
not_admitted p n (inr g) h =
    false≢true (sym (ap (λ o. is_of o n) g.3) ∙ (admitted p n h).heard_is)

over_after : (p : Place) (e : Event) → IsOver p → IsOver (after p e)
over_after p (FirstLine m w c) o =
    taken_over (accepts p m w c) p m (λ h. not_open p o.1 (accepted p m w c h).open_is) o
over_after p NextAsked o = turned_over (is_some p.asker) (is_heard p.heard p.served) p o
over_after p (LineTaken m) o = hand_over (admits p m) p m (not_admitted p m o.1) o
over_after p SessionEnded o = (refl, inl refl)
over_after p (WriteFailed m) o = left_over (is_of p.served m) p o
over_after p ReplyMade o = o
over_after p LineAnswered o = left_over p.closing (record p { asker = None }) (refl, o.1)
over_after p CloseAsked o = left_over (not (is_some p.asker)) (record p { closing = true }) (o.0, inl refl)
over_after p (Tick ms) o =
    left_over (is_late p.closing (waiting p.closing p.waited ms))
    (record p { waited = waiting p.closing p.waited ms }) o

pub over_stays : (again : Bool) (J : List Event) (e : Event) → is_over (past again J) ≡ true
    → is_over (past again (e ∷ J)) ≡ true
over_stays again J e h =
    is_over_if (past again (e ∷ J)) (over_after (past again J) e (over_is (past again J) h))

one_at_most : (b : Bool) → one_if b ≤ 1
one_at_most true = omega arith
one_at_most false = omega arith

pub closed_ends : (again : Bool) (J : List Event) → was_asked J ≡ true → line_of again J ≡ None
    → is_over (past again J) ≡ true
closed_ends again J w l = is_over_if (past again J) (asker_is again J ∙ l, inl (closing_is again J ∙ w))

pub over_answered : (again : Bool) (J : List Event) → is_over (past again J) ≡ true → line_of again J ≡ None
over_answered again J h = sym (asker_is again J) ∙ (over_is (past again J) h).0

not_over : (again : Bool) (J : List Event) → (IsOver (past again J) → ⊥) → is_over (past again J) ≡ false
not_over again J f = not_true (is_over (past again J)) (λ h. f (over_is (past again J) h))

-- ---- whether a place goes on

taken_again : (b : Bool) (p : Place) (n : ℕ) → (taken_by b p n).again ≡ p.again
taken_again true p n = refl
taken_again false p n = refl

hand_again : (b : Bool) (p : Place) (n : ℕ) → (in_hand b p n).again ≡ p.again
hand_again true p n = refl
hand_again false p n = refl

left_again : (b : Bool) (p : Place) → (left_if b p).again ≡ p.again
left_again true p = refl
left_again false p = refl

turned_again : (a m : Bool) (p : Place) → (turned a m p).again ≡ p.again
turned_again true m p = refl
turned_again false true p = refl
turned_again false false p = refl

again_after : (p : Place) (e : Event) → (after p e).again ≡ p.again
again_after p (FirstLine m w c) = taken_again (accepts p m w c) p m
again_after p NextAsked = turned_again (is_some p.asker) (is_heard p.heard p.served) p
again_after p (LineTaken m) = hand_again (admits p m) p m
again_after p ReplyMade = refl
again_after p LineAnswered = left_again p.closing (record p { asker = None })
again_after p (WriteFailed m) = left_again (is_of p.served m) p
again_after p CloseAsked = left_again (not (is_some p.asker)) (record p { closing = true })
again_after p (Tick ms) =
    left_again (is_late p.closing (waiting p.closing p.waited ms))
    (record p { waited = waiting p.closing p.waited ms })
again_after p SessionEnded = refl

again_is : (again : Bool) (J : List Event) → (past again J).again ≡ again
again_is again [] = refl
again_is again (e ∷ J) = again_after (past again J) e ∙ again_is again J

pub goes_on : (J : List Event) → was_asked J ≡ false → is_over (past true J) ≡ false
goes_on J w = not_over true J (λ o. go o.1)
  where
    go : ((past true J).closing ≡ true) ⊎ IsGone (past true J) → ⊥
    go (inl c) = false≢true (sym w ∙ sym (closing_is true J) ∙ c)
    go (inr g) = false≢true (sym g.0 ∙ again_is true J)

-- an event leaves the newest as it was, and serves nobody, or has a newcomer served who is the newest then
pub data Moves (p q : Place) (s : Option ℕ) : Type 0 where
  stays : q.newest ≡ p.newest → s ≡ None → Moves p q s
  comes : (m : ℕ) → q.newest ≡ m → s ≡ Some m → is_open p ≡ true → p.newest < m → Moves p q s

left_newest : (b : Bool) (p : Place) → (left_if b p).newest ≡ p.newest
left_newest true p = refl
left_newest false p = refl

moves : (p : Place) (e : Event) → Moves p (after p e) (told p e).serve
moves p (FirstLine m w c) = go (accepts p m w c) (accepted p m w c)
  where
    go : (b : Bool) → (b ≡ true → Accepted p m w c) → Moves p (taken_by b p m) (some_if b m)
    go true f = comes m refl refl (f refl).open_is (f refl).newer_is
    go false f = stays refl refl
moves p NextAsked = stays (go (is_some p.asker) (is_heard p.heard p.served)) refl
  where
    go : (a m : Bool) → (turned a m p).newest ≡ p.newest
    go true m = refl
    go false true = refl
    go false false = refl
moves p (LineTaken m) = stays (go (admits p m)) refl
  where
    go : (b : Bool) → (in_hand b p m).newest ≡ p.newest
    go true = refl
    go false = refl
moves p ReplyMade = stays refl refl
moves p LineAnswered = stays (left_newest p.closing (record p { asker = None })) refl
moves p (WriteFailed m) = stays (left_newest (is_of p.served m) p) refl
moves p CloseAsked = stays (left_newest (not (is_some p.asker)) (record p { closing = true })) refl
moves p (Tick ms) =
    stays (left_newest (is_late p.closing (waiting p.closing p.waited ms))
    (record p { waited = waiting p.closing p.waited ms })) refl
moves p SessionEnded = stays refl refl

-- the number 0 is never served
zero_step : (p q : Place) (s : Option ℕ) (n : ℕ) → Moves p q s → n ≡ 0 → one_if (is_of s 0) + n ≡ 0
zero_step p q s n (stays k d) h = let i : one_if (is_of s 0) ≡ 0 = ap (λ o. one_if (is_of o 0)) d in
    omega (arith, i, h)
zero_step p q s n (comes m k d o l) h =
    let i : one_if (is_of s 0) ≡ one_if (m == 0) = ap (λ o. one_if (is_of o 0)) d in
    let j : one_if (m == 0) ≡ 0 = ap one_if (not_true (m == 0) (λ t.
    let z : m ≡ 0 = eqb-true m 0 t in absurd (omega (arith, z, l)))) in
    omega (arith, i, j, h)

no_zero : (again : Bool) (J : List Event) → serves again J 0 ≡ 0
no_zero again [] = refl
no_zero again (e ∷ J) =
    zero_step (past again J) (after (past again J) e) (told (past again J) e).serve (serves again J 0)
    (moves (past again J) e) (no_zero again J)

-- whoever is the newest was served
served_step : (p q : Place) (s : Option ℕ) (f : ℕ → ℕ) → Moves p q s → one_if (not (p.newest == 0)) ≤ f p.newest
    → one_if (not (q.newest == 0)) ≤ one_if (is_of s q.newest) + f q.newest
served_step p q s f (stays n d) h =
    let P : ℕ → Type 0 = λ x. one_if (not (x == 0)) ≤ one_if (is_of s x) + f x in
    subst P (sym n) (omega (arith, h))
served_step p q s f (comes m n d o l) h =
    let P : ℕ → Type 0 = λ x. one_if (not (x == 0)) ≤ one_if (is_of s x) + f x in
    let Q : Option ℕ → Type 0 = λ t. one_if (not (m == 0)) ≤ one_if (is_of t m) + f m in
    let i : one_if (m == m) ≡ 1 = ap one_if (eq-eqb m m refl) in
    subst P (sym n) (subst Q (sym d) (omega (arith, i, one_at_most (not (m == 0)))))

was_served : (again : Bool) (J : List Event) → one_if (not ((past again J).newest == 0))
    ≤ serves again J (past again J).newest
was_served again [] = omega arith
was_served again (e ∷ J) =
    served_step (past again J) (after (past again J) e) (told (past again J) e).serve (λ n. serves again J n)
    (moves (past again J) e) (was_served again J)

pub waits : (J : List Event) → was_asked J ≡ false → ((n : ℕ) → cuts false J n ≡ 0) → is_over (past false J) ≡ false
waits J w none = not_over false J (λ o. go o.1)
  where
    go : ((past false J).closing ≡ true) ⊎ IsGone (past false J) → ⊥
    go (inl c) = false≢true (sym w ∙ sym (closing_is false J) ∙ c)
    go (inr g) =
        let k = (past false J).newest in
        let a : one_if (not (k == 0)) ≡ 1 = ap (λ b. one_if (not b)) g.1 in
        let n : one_if (is_of (past false J).served k) ≡ 0 = ap (λ o. one_if (is_of o k)) g.2 in
        omega (arith, a, n, was_served false J, balanced false J k, none k)

-- without `again` one alone is ever served
none_yet : (J : List Event) (n : ℕ) → is_open (past false J) ≡ true → serves false J n ≡ 0
none_yet J n o = first (past false J).closing o
  where
    at_zero : (past false J).newest ≡ 0 → (b : Bool) → nat_le n (past false J).newest ≡ b → serves false J n ≡ 0
    at_zero z true h =
        let l : n ≤ (past false J).newest = leb-true n (past false J).newest h in
        let i : n ≡ 0 = omega (arith, l, z) in
        ap (λ x. serves false J x) i ∙ no_zero false J
    at_zero z false h =
        let i : one_if (nat_le n (past false J).newest) ≡ 0 = ap one_if h in
        omega (arith, i, bounded false J n)

    first : (c : Bool)
        → (if c then false else (if (past false J).again then true else (past false J).newest == 0)) ≡ true
        → serves false J n ≡ 0
    first true f = absurd (false≢true f)
    first false f =
        let z : ((past false J).newest == 0) ≡ true =
        sym (ap (λ b. if b then true else (past false J).newest == 0) (again_is false J)) ∙ f in
        at_zero (eqb-true (past false J).newest 0 z) (nat_le n (past false J).newest) refl

alone_step : (p q : Place) (s : Option ℕ) (n k : ℕ) → Moves p q s → (is_open p ≡ true → k ≡ 0)
    → k ≤ one_if (p.newest == n) → one_if (is_of s n) + k ≤ one_if (q.newest == n)
alone_step p q s n k (stays e d) f h =
    let P : ℕ → Type 0 = λ x. one_if (is_of s n) + k ≤ one_if (x == n) in
    let i : one_if (is_of s n) ≡ 0 = ap (λ o. one_if (is_of o n)) d in
    subst P (sym e) (omega (arith, i, h))
alone_step p q s n k (comes m e d o l) f h =
    let P : ℕ → Type 0 = λ x. one_if (is_of s n) + k ≤ one_if (x == n) in
    let i : one_if (is_of s n) ≡ one_if (m == n) = ap (λ o. one_if (is_of o n)) d in
    subst P (sym e) (omega (arith, i, f o))

one_alone : (J : List Event) (n : ℕ) → serves false J n ≤ one_if ((past false J).newest == n)
one_alone [] n = omega arith
one_alone (e ∷ J) n =
    alone_step (past false J) (after (past false J) e) (told (past false J) e).serve n (serves false J n)
    (moves (past false J) e) (none_yet J n) (one_alone J n)

pub gone_ends : (J : List Event) (n : ℕ) → cuts false J n ≡ 1 → heard_of false J ≡ None → line_of false J ≡ None
    → is_over (past false J) ≡ true
gone_ends J n c h l =
    is_over_if (past false J)
    (asker_is false J ∙ l, inr (again_is false J, had, nobody_now, heard_is false J ∙ h))
  where
    newest_here : (b : Bool) → ((past false J).newest == n) ≡ b → (past false J).newest ≡ n
    newest_here true h = eqb-true (past false J).newest n h
    newest_here false h =
        let i : one_if ((past false J).newest == n) ≡ 0 = ap one_if h in
        absurd (omega (arith, i, c, cut_once false J n, one_alone J n))

    is_n : (past false J).newest ≡ n
    is_n = newest_here ((past false J).newest == n) refl

    had : ((past false J).newest == 0) ≡ false
    had = not_true ((past false J).newest == 0) (λ h.
        let z : n ≡ 0 = sym is_n ∙ eqb-true (past false J).newest 0 h in
        let i : serves false J n ≡ 0 = ap (λ x. serves false J x) z ∙ no_zero false J in
        absurd (omega (arith, i, c, cut_once false J n)))

    not_of : (s : Option ℕ) (k : ℕ) → IsOne s k → k ≡ n → one_if (is_of s n) ≡ 0 → s ≡ None
    not_of _ _ (none_is k) e z = refl
    not_of _ _ (newest_is k) e z =
        let i : one_if (k == n) ≡ 1 = ap one_if (eq-eqb k n e) in absurd (omega (arith, i, z))

    nobody_now : (past false J).served ≡ None
    nobody_now =
        let z : one_if (is_of (past false J).served n) ≡ 0 =
        omega (arith, c, balanced false J n, once false J n) in
        not_of (past false J).served (past false J).newest (is_one false J) is_n z

-- ---- where a board closes and no line is in hand nobody is served

abbrev IsQuiet : Place → Type 0
IsQuiet p = p.closing ≡ true → p.asker ≡ None → p.served ≡ None

quiet_left : (b : Bool) (p : Place) → IsQuiet p → IsQuiet (left_if b p)
quiet_left true p q c a = refl
quiet_left false p q c a = q c a

quiet_turned : (b m : Bool) (p : Place) → IsQuiet p → IsQuiet (turned b m p)
quiet_turned true m p q c a = q c a
quiet_turned false true p q c a = refl
quiet_turned false false p q c a = q c a

quiet_taken : (b : Bool) (p : Place) (n : ℕ) → (b ≡ true → is_open p ≡ true) → IsQuiet p → IsQuiet (taken_by b p n)
quiet_taken true p n f q c a = absurd (not_open p (inl c) (f refl))
quiet_taken false p n f q c a = q c a

quiet_hand : (b : Bool) (p : Place) (n : ℕ) → IsQuiet p → IsQuiet (in_hand b p n)
quiet_hand true p n q c a = absurd (none≢some n (sym a))
quiet_hand false p n q c a = q c a

quiet_answered : (b : Bool) (p : Place) → p.closing ≡ b → IsQuiet (left_if b (record p { asker = None }))
quiet_answered true p e c a = refl
quiet_answered false p e c a = absurd (false≢true (sym e ∙ c))

quiet_closed : (o : Option ℕ) (p : Place) → p.asker ≡ o → IsQuiet (left_if (not (is_some o)) (record p { closing = true }))
quiet_closed None p e c a = refl
quiet_closed (Some n) p e c a = absurd (none≢some n (sym a ∙ e))

quiet_after : (p : Place) (e : Event) → IsQuiet p → IsQuiet (after p e)
quiet_after p (FirstLine m w c) q =
    quiet_taken (accepts p m w c) p m (λ h. (accepted p m w c h).open_is) q
quiet_after p NextAsked q = quiet_turned (is_some p.asker) (is_heard p.heard p.served) p q
quiet_after p (LineTaken m) q = quiet_hand (admits p m) p m q
quiet_after p SessionEnded q = λ c a. refl
quiet_after p (WriteFailed m) q = quiet_left (is_of p.served m) p q
quiet_after p ReplyMade q = q
quiet_after p LineAnswered q = quiet_answered p.closing p refl
quiet_after p CloseAsked q = quiet_closed p.asker p refl
quiet_after p (Tick ms) q =
    quiet_left (is_late p.closing (waiting p.closing p.waited ms))
    (record p { waited = waiting p.closing p.waited ms }) q

is_quiet : (again : Bool) (J : List Event) → IsQuiet (past again J)
is_quiet again [] c a = absurd (false≢true c)
is_quiet again (e ∷ J) c a = quiet_after (past again J) e (is_quiet again J) c a

pub nobody_left : (again : Bool) (J : List Event) (n : ℕ) → is_over (past again J) ≡ true → IsServed again J n → ⊥
nobody_left again J n f s = go (over_is (past again J) f)
  where
    here : (past again J).served ≡ None → ⊥
    here h = none≢some n (sym h ∙ served_said again J n s)

    go : IsOver (past again J) → ⊥
    go o = which o.1
      where
        which : ((past again J).closing ≡ true) ⊎ IsGone (past again J) → ⊥
        which (inl c) = here (is_quiet again J c o.0)
        which (inr g) = here g.2

-- ---- nobody is heard anew where a place closes

kept_none : (b : Bool) (s : Option ℕ) → s ≡ None → kept_if b s ≡ None
kept_none true s h = h
kept_none false s h = refl

next_heard : (o : Option ℕ) (m : Bool) (s : Option ℕ) → (o ≡ None → s ≡ None)
    → kept_if (not (is_some o) && not m) s ≡ None
next_heard None m s f = kept_none (not m) s (f refl)
next_heard (Some n) m s f = refl

pub no_next : (again : Bool) (J : List Event) (e : Event) → was_asked J ≡ true
    → (told_at again J e).hear ≡ None
no_next again J NextAsked h =
    let p = past again J in
    next_heard p.asker (is_heard p.heard p.served) p.served (is_quiet again J (closing_is again J ∙ h))
no_next again J (FirstLine m w c) h = refl
no_next again J (LineTaken m) h = refl
no_next again J ReplyMade h = refl
no_next again J LineAnswered h = refl
no_next again J (WriteFailed m) h = refl
no_next again J CloseAsked h = refl
no_next again J (Tick ms) h = refl
no_next again J SessionEnded h = refl

-- ---- newcomers

open_if : (J : List Event) → was_asked J ≡ false → is_open (past true J) ≡ true
open_if J w =
    ap (λ b. if b then false else (if (past true J).again then true else (past true J).newest == 0))
    (closing_is true J ∙ w)
    ∙ ap (λ b. if b then true else (past true J).newest == 0) (again_is true J)

pub newcomer_taken : (J : List Event) (n : ℕ) → 0 < n → was_asked J ≡ false
    → ((m : ℕ) → serves true J m ≡ 1 → m < n) → (told_at true J (FirstLine n true true)).serve ≡ Some n
newcomer_taken J n z w f =
    ap (λ b. some_if b n) (accepts_if (past true J) n (open_if J w) (newer ((past true J).newest == 0) refl))
  where
    newer : (b : Bool) → ((past true J).newest == 0) ≡ b → (past true J).newest < n
    newer true h = let e : (past true J).newest ≡ 0 = eqb-true (past true J).newest 0 h in omega (arith, e, z)
    newer false h =
        let k = (past true J).newest in
        let a : one_if (not (k == 0)) ≡ 1 = ap (λ b. one_if (not b)) h in
        f k (omega (arith, a, was_served true J, once true J k))

refused_late : (b : Bool) (m n : ℕ) → some_if (not b) m ≡ Some n → b ≡ false
refused_late true m n h = absurd (none≢some n h)
refused_late false m n h = refl

-- who is refused is not served; of a connection that has only come this is not asked
pub not_served : (again : Bool) (J : List Event) (m n : ℕ) (w c : Bool)
    → (told_at again J (FirstLine m w c)).refuse ≡ Some n → IsServed again J n → ⊥
not_served again J m n w c h s =
    let r = refused_is (accepts (past again J) m w c) (is_of (past again J).served m) m n h in
    let P : ℕ → Type 0 = λ x. is_of (past again J).served x ≡ false in
    false≢true (sym (subst P r.0 r.1) ∙ served_told again J n s)

-- ---- a place that is kept

pub goes_further : (q p : Place) (e : Event) → q ≡ after p e → (J : List Event) × (p ≡ past p.again J)
    → (J : List Event) × (q ≡ past q.again J)
goes_further q p e h k =
    let same : q.again ≡ p.again = ap (λ (x : Place). x.again) h ∙ again_after p e in
    (e ∷ k.0, h ∙ ap (λ x. after x e) k.1 ∙ ap (λ b. past b (e ∷ k.0)) (sym same))
