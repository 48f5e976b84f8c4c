-- Levels, told once.
use Rattle.std.proofs.Common.{◌≡◌, ℕ, ◌+◌, ◌*◌, ◌<◌, ◌≤◌, ◌⊎◌, inl, inr, Bool, true, false, nat_le, ◌||◌}
use Rattle.std.proofs.Common.{if◌then◌else◌, refl, sym, ap, ◌∙◌, arith, List, [], ◌∷◌}
use Rattle.std.proofs.lemmas.Bool.{false≢true, leb-true, le-leb}
use Rattle.std.proofs.lemmas.Bool.Decides.{leb_tells}
use Rattle.acdm_place.specs.Filled.{reaches, tells, was_told, told_at, times_told, Reaches, NoneReaches}

not_le : (a b : ℕ) → nat_le a b ≡ false → b < a
not_le a b h = go (leb_tells a b)
  where
    go : ((nat_le a b ≡ true) × (a ≤ b)) ⊎ ((nat_le a b ≡ false) × (b < a)) → b < a
    go (inl p) = absurd (false≢true (sym h ∙ p.0))
    go (inr p) = p.1

neither : (a b : Bool) → (a || b) ≡ false → (a ≡ false) × (b ≡ false)
neither false b h = (refl, h)
neither true b h = absurd (false≢true (sym h))

-- where it was not told none was as much
not_told : (room p : ℕ) (J : List ℕ) → was_told room p J ≡ false → NoneReaches room p J
not_told room p [] h = tt
not_told room p (u ∷ J) h =
    let n = neither (was_told room p J) (reaches room p u) h in
    (not_le (room * p) (u * 100) n.1, not_told room p J n.0)

below : (a b : ℕ) → b < a → nat_le a b ≡ false
below a b l = go (nat_le a b) refl
  where
    go : (c : Bool) → nat_le a b ≡ c → nat_le a b ≡ false
    go true h = let m : a ≤ b = leb-true a b h in absurd (omega (arith, l, m))
    go false h = h

-- and where none was as much it was not told
none_told : (room p : ℕ) (J : List ℕ) → NoneReaches room p J → was_told room p J ≡ false
none_told room p [] h = refl
none_told room p (u ∷ J) h =
    ap (λ b. b || reaches room p u) (none_told room p J h.1) ∙ below (room * p) (u * 100) h.0

told_true : (b r : Bool) → tells b r ≡ true → (b ≡ false) × (r ≡ true)
told_true false r h = (refl, h)
told_true true r h = absurd (false≢true h)

pub first : (room p u : ℕ) (J : List ℕ) → told_at room p J u ≡ true → Reaches room p u × NoneReaches room p J
first room p u J h =
    let t = told_true (was_told room p J) (reaches room p u) h in
    (leb-true (room * p) (u * 100) t.1, not_told room p J t.0)

pub always : (room p u : ℕ) (J : List ℕ) → Reaches room p u → NoneReaches room p J → told_at room p J u ≡ true
always room p u J r n =
    ap (λ b. tells b (reaches room p u)) (none_told room p J n) ∙ le-leb (room * p) (u * 100) r

-- how often it was told is whether it was
step : (b r : Bool) (k : ℕ) → k ≡ (if b then 1 else 0) → (if tells b r then 1 else 0) + k ≡ (if b || r then 1 else 0)
step false true k h = omega (arith, h)
step false false k h = omega (arith, h)
step true r k h = omega (arith, h)

counted : (room p : ℕ) (J : List ℕ) → times_told room p J ≡ (if was_told room p J then 1 else 0)
counted room p [] = refl
counted room p (u ∷ J) = step (was_told room p J) (reaches room p u) (times_told room p J) (counted room p J)

one_at_most : (b : Bool) → (if b then 1 else 0) ≤ 1
one_at_most true = omega arith
one_at_most false = omega arith

pub once : (room p : ℕ) (J : List ℕ) → times_told room p J ≤ 1
once room p J = omega (arith, counted room p J, one_at_most (was_told room p J))
