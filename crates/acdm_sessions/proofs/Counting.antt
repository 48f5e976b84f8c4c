-- The own entries of sessions are all that they have, by counting.
use Rattle.std.proofs.Common.{◌≡◌, ℕ, zero, suc, ◌+◌, ◌<◌, ◌≤◌, Bool, true, false, cond, ◌==◌}
use Rattle.std.proofs.Common.{List, [], ◌∷◌, map, length, drop, reverse, refl, sym, ap, subst, ◌∙◌}
use Rattle.std.proofs.Common.{inl, inr, arith, eqb-true, ne_eqb}
use Rattle.std.specs.Prelude.{slice_index_or, sum_by}
use Rattle.std.specs.List.{All, filter, sum as sum_of}
use Rattle.std.proofs.lemmas.List.Elements.{All-map}
use Rattle.std.proofs.lemmas.List.{length-reverse, length-drop}
use Rattle.std.proofs.lemmas.List.Sums.{sum_by-cons, sum-map}
use Rattle.acdm_milestones.specs.declared.role.Role.{Role}
use Rattle.acdm_step.specs.declared.entry.Entry.{Entry}
use Rattle.acdm_board.specs.Desk.{DeskView, row_of}
use Rattle.acdm_sessions.specs.Passes.{BeginsWith, IsPartOf, IsShown, made_since}
use Rattle.acdm_sessions.specs.Sessions.{HaveEnded, HaveServed, ServesSessions, SessionStart, SessionTold}
use Rattle.acdm_sessions.proofs.Seats.{map_map}

-- ---- entries that stand in others

part_few : (xs ys : List Entry) → IsPartOf xs ys → length xs ≤ length ys
part_few [] ys p = omega arith
part_few (x ∷ xs) [] p = absurd p
part_few (x ∷ xs) (y ∷ ys) (inl p) = omega (arith, part_few xs ys p.1)
part_few (x ∷ xs) (y ∷ ys) (inr p) = omega (arith, part_few (x ∷ xs) ys p)

part_same : (xs ys : List Entry) → IsPartOf xs ys → length xs ≡ length ys → xs ≡ ys
part_same [] [] p same = refl
part_same [] (y ∷ ys) p same = absurd (omega (arith, same))
part_same (x ∷ xs) [] p same = absurd p
part_same (x ∷ xs) (y ∷ ys) (inl p) same =
    let rest = part_same xs ys p.1 (omega (arith, same)) in
    λ i. p.0 i ∷ rest i
part_same (x ∷ xs) (y ∷ ys) (inr p) same = absurd (omega (arith, same, part_few (x ∷ xs) ys p))

-- ---- how many entries there are of each of some sessions

abbrev count : ℕ → List Entry → ℕ
count n es = length (filter (λ e. e.session == n) es)

abbrev totals : List ℕ → List Entry → ℕ
totals [] es = 0
totals (n ∷ ns) es = count n es + totals ns es

abbrev hit : ℕ → Entry → ℕ
hit n e = cond (e.session == n) 1 0

abbrev hits : List ℕ → Entry → ℕ
hits [] e = 0
hits (n ∷ ns) e = hit n e + hits ns e

-- numbers one after the other, from this one on
abbrev Follow : ℕ → List ℕ → Type 0
Follow n [] = Unit {0}
Follow n (m ∷ ms) = (m ≡ n) × Follow (n + 1) ms

length_if : (b : Bool) (e : Entry) (es : List Entry) → length (cond b (e ∷ es) es) ≡ cond b 1 0 + length es
length_if true e es = omega arith
length_if false e es = omega arith

count_cons : (n : ℕ) (e : Entry) (es : List Entry) → count n (e ∷ es) ≡ hit n e + count n es
count_cons n e es = length_if (e.session == n) e (filter (λ x. x.session == n) es)

totals_cons : (ns : List ℕ) (e : Entry) (es : List Entry)
    → totals ns (e ∷ es) ≡ hits ns e + totals ns es
totals_cons [] e es = omega arith
totals_cons (n ∷ ns) e es = omega (arith, count_cons n e es, totals_cons ns e es)

totals_none : (ns : List ℕ) → totals ns [] ≡ 0
totals_none [] = refl
totals_none (n ∷ ns) = omega (arith, totals_none ns)

hit_not : (n : ℕ) (e : Entry) → (e.session == n) ≡ false → hit n e ≡ 0
hit_not n e other = ap (λ b. cond b 1 0) other

hit_few : (n : ℕ) (e : Entry) (b : Bool) → (e.session == n) ≡ b → hit n e ≡ cond b 1 0
hit_few n e b same = ap (λ x. cond x 1 0) same

hits_none : (n : ℕ) (ns : List ℕ) (e : Entry) → Follow n ns → e.session < n → hits ns e ≡ 0
hits_none n [] e follow below = refl
hits_none n (m ∷ ms) e follow below =
    let other : (e.session == m) ≡ false =
    ne_eqb e.session m (λ same. omega (arith, same, follow.0, below)) in
    omega (arith, hit_not m e other, hits_none (n + 1) ms e follow.1 (omega (arith, below)))

hits_case : (n m : ℕ) (ms : List ℕ) (e : Entry) → m ≡ n → Follow (n + 1) ms → hits ms e ≤ 1
    → (b : Bool) → (e.session == m) ≡ b → hit m e + hits ms e ≤ 1
hits_case n m ms e first follow few true same =
    let is : e.session ≡ m = eqb-true e.session m same in
    let none = hits_none (n + 1) ms e follow (omega (arith, is, first)) in
    omega (arith, hit_few m e true same, none)
hits_case n m ms e first follow few false same = omega (arith, hit_few m e false same, few)

hits_one : (n : ℕ) (ns : List ℕ) (e : Entry) → Follow n ns → hits ns e ≤ 1
hits_one n [] e follow = omega arith
hits_one n (m ∷ ms) e follow =
    hits_case n m ms e follow.0 follow.1 (hits_one (n + 1) ms e follow.1) (e.session == m) refl

totals_few : (n : ℕ) (ns : List ℕ) (es : List Entry) → Follow n ns → totals ns es ≤ length es
totals_few n ns [] follow = omega (arith, totals_none ns)
totals_few n ns (e ∷ es) follow =
    omega (arith, totals_cons ns e es, hits_one n ns e follow, totals_few n ns es follow)

-- ---- sums that are the same, term by term

module _ {X : Type 0} where
  abbrev total : (X → ℕ) → List X → ℕ
  total f [] = 0
  total f (x ∷ xs) = f x + total f xs

  sum_total : (f : X → ℕ) (xs : List X) → sum_by f xs ≡ total f xs
  sum_total f [] = refl
  sum_total f (x ∷ xs) = sum_by-cons f x xs ∙ ap (λ n. f x + n) (sum_total f xs)

  first : (P : X → Type 0) (x : X) (xs : List X) → All P (x ∷ xs) → P x
  first P x xs all = all 0 x (omega arith)

  others : (P : X → Type 0) (x : X) (xs : List X) → All P (x ∷ xs) → All P xs
  others P x xs all = λ k d below. all (suc k) d (omega (arith, below))

  both : (P : X → Type 0) (x : X) (xs : List X) → P x → All P xs → All P (x ∷ xs)
  both P x xs here rest = λ k. at k
    where
      at : (k : ℕ) (d : X) → k < length (x ∷ xs) → P (slice_index_or (x ∷ xs) k d)
      at zero d below = here
      at (suc k) d below = rest k d (omega (arith, below))

  total_few : (f g : X → ℕ) (xs : List X) → All (λ x. f x ≤ g x) xs → total f xs ≤ total g xs
  total_few f g [] all = omega arith
  total_few f g (x ∷ xs) all =
      omega (
        arith,
        first (λ y. f y ≤ g y) x xs all,
        total_few f g xs (others (λ y. f y ≤ g y) x xs all),
      )

  each_same : (f g : X → ℕ) (xs : List X) → All (λ x. f x ≤ g x) xs → total g xs ≤ total f xs
      → All (λ x. f x ≡ g x) xs
  each_same f g [] all few = λ k d below. absurd (omega (arith, below))
  each_same f g (x ∷ xs) all few =
      let here = first (λ y. f y ≤ g y) x xs all in
      let rest = others (λ y. f y ≤ g y) x xs all in
      let fewer = total_few f g xs rest in
      both (λ y. f y ≡ g y) x xs (omega (arith, here, fewer, few))
      (each_same f g xs rest (omega (arith, here, fewer, few)))

-- ---- all of them

follows : (n : ℕ) (roles : List Role) (ts : List SessionTold)
    → HaveEnded n roles (map (λ t. t.end) ts) → Follow n (map (λ t. t.end.number) ts)
follows n [] [] ended = tt
follows n [] (t ∷ ts) ended = absurd ended
follows n (r ∷ rs) [] ended = absurd ended
follows n (r ∷ rs) (t ∷ ts) ended = (ended.0, follows (n + 1) rs ts ended.3)

totals_total : {X : Type 0} (number : X → ℕ) (es : List Entry) (xs : List X)
    → totals (map number xs) es ≡ total (λ x. count (number x) es) xs
totals_total number es [] = refl
totals_total number es (x ∷ xs) = ap (λ n. count (number x) es + n) (totals_total number es xs)

-- where no session is torn, and their calls are as many as the entries since the opening, the own entries
-- of each are all that it has
pub owns_all : (start : ℕ) (closed : DeskView) (roles : List Role) (ts : List SessionTold)
    → length closed.history ≡ start + sum_by (λ t. t.end.calls) ts
    → HaveEnded 1 roles (map (λ t. t.end) ts)
    → All (λ t. IsShown start closed t.end.number t.end.role t.end.calls t.torn t.left.pass) ts
    → All (λ t. t.torn ≡ false) ts
    → All (λ t. t.left.pass.own ≡ made_since start closed.history t.end.number) ts
owns_all start closed roles ts sum ended shown none = each
  where
    es : List Entry
    es = drop start (reverse closed.history)

    of : SessionTold → ℕ
    of t = count t.end.number es

    few : All (λ t. t.end.calls ≤ of t) ts
    few k d below =
        let s = shown k d below in
        omega (arith, s.counted, part_few _ _ (s.own (none k d below)))

    enough : total of ts ≤ total (λ t. t.end.calls) ts
    enough = omega (
      arith,
      sum,
      sum_total (λ (t : SessionTold). t.end.calls) ts,
      totals_total (λ (t : SessionTold). t.end.number) es ts,
      totals_few 1 (map (λ (t : SessionTold). t.end.number) ts) es (follows 1 roles ts ended),
      length-drop start (reverse closed.history),
      length-reverse closed.history,
    )

    same : All (λ t. t.end.calls ≡ of t) ts
    same = each_same (λ t. t.end.calls) of ts few enough

    each : All (λ t. t.left.pass.own ≡ made_since start closed.history t.end.number) ts
    each k d below =
        let s = shown k d below in
        part_same _ _ (s.own (none k d below)) (s.counted ∙ same k d below)

-- ---- all that comes of sessions

sum_map : {X Y : Type 0} (g : Y → ℕ) (f : X → Y) (xs : List X)
    → sum_by (λ x. g (f x)) xs ≡ sum_by g (map f xs)
sum_map g f xs =
    sym (sum-map (λ x. g (f x)) xs) ∙ ap sum_of (map_map g f xs) ∙ sum-map g (map f xs)

-- sessions were served, by what is said of each that began and of each that has ended
pub serves_sessions : {S X : Type 0} (start : S → SessionStart) (told : X → SessionTold)
    (opening closed : DeskView) (ss : List S) (xs : List X)
    → length closed.history ≡ length opening.history + sum_by (λ x. (told x).end.calls) xs
    → HaveEnded 1 (map (λ s. (start s).role) ss) (map (λ x. (told x).end) xs)
    → HaveServed (row_of opening) (map start ss) (map (λ x. (told x).left) xs)
    → BeginsWith opening.history closed.history
    → All (λ x. IsShown (length opening.history) closed (told x).end.number (told x).end.role
    (told x).end.calls (told x).torn (told x).left.pass) xs
    → ServesSessions opening closed (map start ss) (map told xs)
serves_sessions start told opening closed ss xs sum ended served begins shown =
    let all : length closed.history
    ≡ length opening.history + sum_by (λ (t : SessionTold). t.end.calls) (map told xs) =
    sum ∙ ap (λ n. length opening.history + n) (sum_map (λ t. t.end.calls) told xs) in
    let each : HaveEnded 1 (map (λ (s : SessionStart). s.role) (map start ss))
    (map (λ (t : SessionTold). t.end) (map told xs)) =
    subst (λ roles. HaveEnded 1 roles (map (λ (t : SessionTold). t.end) (map told xs)))
    (map_map (λ s. s.role) start ss)
    (subst (λ ts. HaveEnded 1 (map (λ s. (start s).role) ss) ts) (map_map (λ t. t.end) told xs) ended) in
    let seen = All-map (λ (t : SessionTold). IsShown (length opening.history) closed t.end.number
    t.end.role t.end.calls t.torn t.left.pass) told xs shown in
    record {
      sum = all;
      sessions = each;
      served = subst (λ ts. HaveServed (row_of opening) (map start ss) ts)
          (map_map (λ t. t.left) told xs) served;
      begins = begins;
      shown = seen;
      own = owns_all (length opening.history) closed _ (map told xs) all each seen;
    }
