-- The answers decide a run: two runs over the beginnings of one list of answers meet.
use Rattle.std.proofs.Common.{◌≡◌, ℕ, zero, suc, ◌+◌, List, [], ◌∷◌, ◌++◌, Bool, true, false}
use Rattle.std.proofs.Common.{if◌then◌else◌, IsTrue, Option, Some, None, refl, sym, ap, ◌∙◌, subst}
use Rattle.std.proofs.Common.{append-nil, arith, ◌⊎◌, inl, inr}
use Rattle.bpf_decode.specs.declared.op.Op.{Op}
use Rattle.bpf_helpers.specs.Promise.{Promise, is_answer}
use Rattle.bpf_semantics.specs.Machine.{Machine, Action, Goes, Asks, Ends, Stuck, action, answered}
use Rattle.bpf_semantics.specs.Runs.{follow, after, Reaches, Comes}

module _ (ops : List Op) (sigs : List (ℕ × Promise)) (record_bytes : List ℕ) where
  -- the run of n steps over xs, which ends in a and leaves these answers, goes on to that of k
  -- steps over ys
  pub record GoesOn (n k : ℕ) (xs ys left right : List ℕ) (a b : Machine) : Type 0 where
    pub steps : ℕ
    pub more : List ℕ
    pub later : k ≡ n + steps
    pub longer : ys ≡ xs ++ more
    pub rest : left ≡ more ++ right
    pub reaches : Reaches ops sigs record_bytes a more steps b

  abbrev pub Meet : ℕ → ℕ → List ℕ → List ℕ → List ℕ → List ℕ → Machine → Machine → Type 0
  Meet n k xs ys left right a b = GoesOn n k xs ys left right a b ⊎ GoesOn k n ys xs right left b a

  one_later : (n k : ℕ) (xs ys left right : List ℕ) (a b : Machine)
      → GoesOn n k xs ys left right a b → GoesOn (suc n) (suc k) xs ys left right a b
  one_later n k xs ys left right a b g =
      record {
        steps = g.steps;
        more = g.more;
        later = omega (arith, g.later);
        longer = g.longer;
        rest = g.rest;
        reaches = g.reaches;
      }

  one_longer : (n k : ℕ) (x y : ℕ) (xs ys left right : List ℕ) (a b : Machine) → x ≡ y
      → GoesOn n k xs ys left right a b → GoesOn (suc n) (suc k) (x ∷ xs) (y ∷ ys) left right a b
  one_longer n k x y xs ys left right a b e g =
      let longer : y ∷ ys ≡ (x ∷ xs) ++ g.more = cc (g.longer) in
      record {
        steps = g.steps;
        more = g.more;
        later = omega (arith, g.later);
        longer = longer;
        rest = g.rest;
        reaches = g.reaches;
      }

  both_later : (n k : ℕ) (xs ys left right : List ℕ) (a b : Machine) → Meet n k xs ys left right a b
      → Meet (suc n) (suc k) xs ys left right a b
  both_later n k xs ys left right a b (inl g) = inl (one_later n k xs ys left right a b g)
  both_later n k xs ys left right a b (inr g) = inr (one_later k n ys xs right left b a g)

  both_longer : (n k : ℕ) (x y : ℕ) (xs ys left right : List ℕ) (a b : Machine) → x ≡ y
      → Meet n k xs ys left right a b → Meet (suc n) (suc k) (x ∷ xs) (y ∷ ys) left right a b
  both_longer n k x y xs ys left right a b e (inl g) =
      inl (one_longer n k x y xs ys left right a b e g)
  both_longer n k x y xs ys left right a b e (inr g) =
      inr (one_longer k n y x ys xs right left b a (sym e) g)

  if_some : (t : Bool) (go : Option Machine) (a : Machine) → (if t then go else None) ≡ Some a
      → go ≡ Some a
  if_some true go a e = e
  if_some false go a e = absurd (cc)

  step_meets : (act : Action) (m : Machine) (n k : ℕ) (xs ys left right : List ℕ) (a b : Machine)
      → ((us vs : List ℕ) (x : Machine) → us ++ left ≡ vs ++ right
      → after ops sigs record_bytes n us x ≡ Some a
      → after ops sigs record_bytes k vs x ≡ Some b → Meet n k us vs left right a b)
      → xs ++ left ≡ ys ++ right → follow sigs act m (after ops sigs record_bytes n) xs ≡ Some a
      → follow sigs act m (after ops sigs record_bytes k) ys ≡ Some b
      → Meet (suc n) (suc k) xs ys left right a b
  step_meets (Goes next) m n k xs ys left right a b on e h i =
      both_later n k xs ys left right a b (on xs ys next e h i)
  step_meets (Asks helper passed) m n k [] ys left right a b on e h i = absurd (cc)
  step_meets (Asks helper passed) m n k (x ∷ xs) [] left right a b on e h i = absurd (cc)
  step_meets (Asks helper passed) m n k (x ∷ xs) (y ∷ ys) left right a b on e h i =
      let same : x ≡ y = cc in
      let rests : xs ++ left ≡ ys ++ right = cc in
      let first : after ops sigs record_bytes n xs (answered m x) ≡ Some a =
      if_some (is_answer sigs helper passed x) _ a h in
      let second : after ops sigs record_bytes k ys (answered m y) ≡ Some b =
      if_some (is_answer sigs helper passed y) _ b i in
      both_longer n k x y xs ys left right a b same
      (on xs ys (answered m x) rests first (rw same second))
  step_meets (Ends r) m n k xs ys left right a b on e h i = absurd (cc)
  step_meets Stuck m n k xs ys left right a b on e h i = absurd (cc)

  pub meets : (n k : ℕ) (xs ys left right : List ℕ) (m a b : Machine)
      → xs ++ left ≡ ys ++ right → Reaches ops sigs record_bytes m xs n a
      → Reaches ops sigs record_bytes m ys k b → Meet n k xs ys left right a b
  meets zero k [] ys left right m a b e h i =
      let here : Reaches ops sigs record_bytes a ys k b =
      subst (λ x. Reaches ops sigs record_bytes x ys k b) (cc) i in
      inl (record {
        steps = k;
        more = ys;
        later = omega arith;
        longer = refl;
        rest = e;
        reaches = here;
      })
  meets zero k (x ∷ xs) ys left right m a b e h i = absurd (cc)
  meets (suc n) zero xs [] left right m a b e h i =
      let here : Reaches ops sigs record_bytes b xs (suc n) a =
      subst (λ x. Reaches ops sigs record_bytes x xs (suc n) a) (cc) h in
      inr (record {
        steps = suc n;
        more = xs;
        later = omega arith;
        longer = refl;
        rest = sym e;
        reaches = here;
      })
  meets (suc n) zero xs (y ∷ ys) left right m a b e h i = absurd (cc)
  meets (suc n) (suc k) xs ys left right m a b e h i =
      step_meets (action ops sigs record_bytes m) m n k xs ys left right a b
      (λ us vs x. meets n k us vs left right x a b) e h i

  -- ---- at an end, a question, or a trap

  -- no step leads on from an end
  at_end : (d : ℕ) (more : List ℕ) (a b : Machine) (r : ℕ) → action ops sigs record_bytes a ≡ Ends r
      → Reaches ops sigs record_bytes a more d b → (d ≡ 0) × (more ≡ []) × (a ≡ b)
  at_end zero [] a b r e h = (refl, refl, cc)
  at_end zero (x ∷ more) a b r e h = absurd (cc)
  at_end (suc d) more a b r e h =
      let none : None ≡ Some b = rw e at h in
      absurd (cc)

  -- a step on from a question takes an answer to it
  taken : (d : ℕ) (more : List ℕ) (a b : Machine) (helper : ℕ) (passed : List ℕ)
      → action ops sigs record_bytes a ≡ Asks helper passed
      → Reaches ops sigs record_bytes a more (suc d) b
      → (answer : ℕ) × (others : List ℕ) × (more ≡ answer ∷ others)
      × IsTrue (is_answer sigs helper passed answer)
  taken d more a b helper passed e h =
      let asked : follow sigs (Asks helper passed) a (after ops sigs record_bytes d) more ≡ Some b =
      rw e at h in
      first more asked
    where
      if_true : (t : Bool) (go : Option Machine) → (if t then go else None) ≡ Some b → t ≡ true
      if_true true go k = refl
      if_true false go k = absurd (cc)

      first : (more : List ℕ) → follow sigs (Asks helper passed) a (after ops sigs record_bytes d)
          more ≡ Some b
          → (answer : ℕ) × (others : List ℕ) × (more ≡ answer ∷ others)
          × IsTrue (is_answer sigs helper passed answer)
      first [] k = absurd (cc)
      first (answer ∷ others) k = (
        answer,
        others,
        refl,
        if_true (is_answer sigs helper passed answer) _ k,
      )

  end_of : (n k : ℕ) (xs ys left right : List ℕ) (a b : Machine) (r s : ℕ)
      → action ops sigs record_bytes a ≡ Ends r → action ops sigs record_bytes b ≡ Ends s
      → GoesOn n k xs ys left right a b → (xs ≡ ys) × (n ≡ k) × (r ≡ s)
  end_of n k xs ys left right a b r s e f g =
      let at : (g.steps ≡ 0) × (g.more ≡ []) × (a ≡ b) = at_end g.steps g.more a b r e g.reaches in
      let same : Ends r ≡ Ends s = sym e ∙ ap (action ops sigs record_bytes) at.2 ∙ f in
      let longer : ys ≡ xs ++ [] = g.longer ∙ ap (λ more. xs ++ more) at.1 in
      (sym (longer ∙ append-nil xs), omega (arith, g.later, at.0), cc)

  -- answers decide how a run ends
  pub ends_once : (n k : ℕ) (xs ys left right : List ℕ) (m : Machine) (r s : ℕ)
      → xs ++ left ≡ ys ++ right → Comes ops sigs record_bytes m xs n (Ends r)
      → Comes ops sigs record_bytes m ys k (Ends s) → (xs ≡ ys) × (n ≡ k) × (r ≡ s)
  ends_once n k xs ys left right m r s e f h =
      elim (meets n k xs ys left right m f.0 h.0 e f.1 h.1) [
        | inl g ↦ end_of n k xs ys left right f.0 h.0 r s f.2 h.2 g
        | inr g ↦ let t : (ys ≡ xs) × (k ≡ n) × (s ≡ r) =
            end_of k n ys xs right left h.0 f.0 s r h.2 f.2 g in (sym t.0, sym t.1, sym t.2)
      ]

  end_after : (n k : ℕ) (xs ys left right : List ℕ) (a b : Machine) (r helper : ℕ) (passed : List ℕ)
      → action ops sigs record_bytes a ≡ Ends r
      → action ops sigs record_bytes b ≡ Asks helper passed → GoesOn n k xs ys left right a b
      → ⊥
  end_after n k xs ys left right a b r helper passed e f g =
      let at : (g.steps ≡ 0) × (g.more ≡ []) × (a ≡ b) = at_end g.steps g.more a b r e g.reaches in
      let same : Ends r ≡ Asks helper passed = sym e ∙ ap (action ops sigs record_bytes) at.2 ∙ f in
      cc

  asked_before : (n k d : ℕ) (xs ys left right more : List ℕ) (a b : Machine) (r helper : ℕ)
      (passed : List ℕ)
      → action ops sigs record_bytes a ≡ Ends r
      → action ops sigs record_bytes b ≡ Asks helper passed → right ≡ more ++ left
      → Reaches ops sigs record_bytes b more d a
      → (answer : ℕ) × (others : List ℕ) × (right ≡ answer ∷ others)
      × IsTrue (is_answer sigs helper passed answer)
  asked_before n k zero xs ys left right [] a b r helper passed e f h i =
      let at : b ≡ a = cc in
      let same : Asks helper passed ≡ Ends r = sym f ∙ ap (action ops sigs record_bytes) at ∙ e in
      absurd (cc)
  asked_before n k zero xs ys left right (x ∷ more) a b r helper passed e f h i = absurd (cc)
  asked_before n k (suc d) xs ys left right more a b r helper passed e f h i =
      let t : (answer : ℕ) × (others : List ℕ) × (more ≡ answer ∷ others)
      × IsTrue (is_answer sigs helper passed answer) = taken d more b a helper passed f i in
      (t.0, t.1 ++ left, h ∙ ap (λ us. us ++ left) t.2, t.3)

  -- where a run asks, and one over more of the same answers ends, the next answer is one that may
  -- be given
  pub asks_before_end : (n k : ℕ) (xs ys left right : List ℕ) (m : Machine) (r helper : ℕ)
      (passed : List ℕ)
      → xs ++ left ≡ ys ++ right → Comes ops sigs record_bytes m xs n (Ends r)
      → Comes ops sigs record_bytes m ys k (Asks helper passed)
      → (answer : ℕ) × (others : List ℕ) × (right ≡ answer ∷ others)
      × IsTrue (is_answer sigs helper passed answer)
  asks_before_end n k xs ys left right m r helper passed e f h =
      elim (meets n k xs ys left right m f.0 h.0 e f.1 h.1) [
        | inl g ↦ absurd (end_after n k xs ys left right f.0 h.0 r helper passed f.2 h.2 g)
        | inr g ↦ asked_before n k g.steps xs ys left right g.more f.0 h.0 r helper passed f.2 h.2
            g.rest g.reaches
      ]
