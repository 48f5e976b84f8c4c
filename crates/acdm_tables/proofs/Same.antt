-- Two tables of pairs are one where they compare so.
use Rattle.std.proofs.Common.{◌≡◌, ◌↔◌, ℕ, List, [], ◌∷◌, ◌&&◌, ◌==◌, Bool, true, false, IsTrue, subst, refl}
use Rattle.std.proofs.lemmas.Bool.{eq-eqb, eqb-true}
use Rattle.acdm_tables.specs.Helpers.{TablesView, same_pairs, same_tables}

-- both of two answers
first : (a b : Bool) → (a && b) ≡ true → a ≡ true
first true b h = refl
first false b h = h

second : (a b : Bool) → (a && b) ≡ true → b ≡ true
second true b h = h
second false b h = absurd (cc)

same_pairs_is : (one other : List (ℕ × ℕ)) → same_pairs one other ≡ true → one ≡ other
same_pairs_is [] [] h = refl
same_pairs_is [] (b ∷ other) h = absurd (cc)
same_pairs_is (a ∷ one) [] h = absurd (cc)
same_pairs_is (a ∷ one) (b ∷ other) h =
    let x : a.0 ≡ b.0 = eqb-true a.0 b.0 (first _ _ h) in
    let y : a.1 ≡ b.1 = eqb-true a.1 b.1 (first _ _ (second _ _ h)) in
    let rest : one ≡ other = same_pairs_is one other (second _ _ (second _ _ h)) in
    λ i. (x i, y i) ∷ rest i

pairs_same : (table : List (ℕ × ℕ)) → same_pairs table table ≡ true
pairs_same [] = refl
pairs_same (a ∷ table) = cc (eq-eqb a.0 a.0 refl, eq-eqb a.1 a.1 refl, pairs_same table)

-- tables are one just where they compare so
pub same_tables_is : (one other : TablesView) → IsTrue (same_tables one other) ↔ (one ≡ other)
same_tables_is one other = (
  λ h. parts one other (second (one.other == other.other) (pairs one other) h)
      (eqb-true one.other other.other (first (one.other == other.other) (pairs one other) h)),
  λ same. subst (λ (it : TablesView). IsTrue (same_tables one it)) same (with_itself one),
)
  where
    pairs : TablesView → TablesView → Bool
    pairs one other = same_pairs one.types other.types
        && (same_pairs one.stands other.stands && same_pairs one.steps other.steps)

    parts : (one other : TablesView) → pairs one other ≡ true → one.other ≡ other.other → one ≡ other
    parts one other h a =
        let t : Bool = same_pairs one.types other.types in
        let s : Bool = same_pairs one.stands other.stands in
        let u : Bool = same_pairs one.steps other.steps in
        let x : one.types ≡ other.types = same_pairs_is one.types other.types (first t (s && u) h) in
        let y : one.stands ≡ other.stands =
        same_pairs_is one.stands other.stands (first s u (second t (s && u) h)) in
        let z : one.steps ≡ other.steps =
        same_pairs_is one.steps other.steps (second s u (second t (s && u) h)) in
        λ i. record { types = x i; other = a i; stands = y i; steps = z i }

    with_itself : (tables : TablesView) → same_tables tables tables ≡ true
    with_itself tables = cc (
      eq-eqb tables.other tables.other refl,
      pairs_same tables.types,
      pairs_same tables.stands,
      pairs_same tables.steps,
    )
