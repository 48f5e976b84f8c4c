-- What the test of two lists of signatures tells.
use Rattle.std.proofs.Common.{◌≡◌, ◌↔◌, ℕ, Bool, true, false, ◌&&◌, ◌==◌, IsTrue, List, refl, sym}
use Rattle.std.proofs.Common.{ap, ◌∙◌, eqb-true, eq-eqb}
use Rattle.std.specs.Cmp.Lexicographic.{pointwise}
use Rattle.std.specs.Bool.{Decides}
use Rattle.std.proofs.lemmas.Slice.Eq.{slice_eq-Decides}
use Rattle.bpf_helpers.specs.declared.range.Range.{Range}
use Rattle.bpf_helpers.specs.Promise.{Promise}
use Rattle.bpf_helpers.specs.Same.{same_range, same_pair, same_promise, same_entry, same_sigs}

first : (a b : Bool) → (a && b) ≡ true → a ≡ true
first true b h = refl
first false b h = h

second : (a b : Bool) → (a && b) ≡ true → b ≡ true
second true b h = h
second false b h = absurd (cc)

numbers : (a b : ℕ) → Decides (a == b) (a ≡ b)
numbers a b = (λ h. eqb-true a b h, λ h. eq-eqb a b h)

ranges : (a b : Range) → Decides (same_range a b) (a ≡ b)
ranges a b = (
  λ h. let lo = eqb-true a.lo b.lo (first (a.lo == b.lo) (a.hi == b.hi) h) in let hi =
      eqb-true a.hi b.hi (second (a.lo == b.lo) (a.hi == b.hi) h) in
      λ i. record { lo = lo i; hi = hi i },
  λ h. ap (λ x. same_range a x) (sym h) ∙ ap (λ t. t && a.hi == a.hi) (eq-eqb a.lo a.lo refl)
      ∙ eq-eqb a.hi a.hi refl,
)

pairs : (a b : ℕ × ℕ) → Decides (same_pair a b) (a ≡ b)
pairs a b = (
  λ h. let x = eqb-true a.0 b.0 (first (a.0 == b.0) (a.1 == b.1) h) in let y =
      eqb-true a.1 b.1 (second (a.0 == b.0) (a.1 == b.1) h) in λ i. (x i, y i),
  λ h. ap (λ x. same_pair a x) (sym h) ∙ ap (λ t. t && a.1 == a.1) (eq-eqb a.0 a.0 refl)
      ∙ eq-eqb a.1 a.1 refl,
)

promises : (a b : Promise) → Decides (same_promise a b) (a ≡ b)
promises a b = (
  λ h.
      let rest = second (pointwise same_range a.args b.args) (same_range a.answer b.answer
      && pointwise same_pair a.table b.table) h in
      let args = (slice_eq-Decides ranges a.args b.args (pointwise same_range a.args b.args) refl).0
      (first (pointwise same_range a.args b.args) (same_range a.answer b.answer
      && pointwise same_pair a.table b.table) h) in
      let answer = (ranges a.answer b.answer).0
      (first (same_range a.answer b.answer) (pointwise same_pair a.table b.table) rest) in
      let table =
      (slice_eq-Decides pairs a.table b.table (pointwise same_pair a.table b.table) refl).0
      (second (same_range a.answer b.answer) (pointwise same_pair a.table b.table) rest) in
      λ i. record { args = args i; answer = answer i; table = table i },
  λ h.
      ap (λ x. same_promise a x) (sym h)
      ∙ ap (λ t. t && (same_range a.answer a.answer && pointwise same_pair a.table a.table))
      ((slice_eq-Decides ranges a.args a.args (pointwise same_range a.args a.args) refl).1 refl)
      ∙ ap (λ t. t && pointwise same_pair a.table a.table) ((ranges a.answer a.answer).1 refl)
      ∙ (slice_eq-Decides pairs a.table a.table (pointwise same_pair a.table a.table) refl).1 refl,
)

entries : (a b : ℕ × Promise) → Decides (same_entry a b) (a ≡ b)
entries a b = (
  λ h. let x = eqb-true a.0 b.0 (first (a.0 == b.0) (same_promise a.1 b.1) h) in let y =
      (promises a.1 b.1).0 (second (a.0 == b.0) (same_promise a.1 b.1) h) in λ i. (x i, y i),
  λ h. ap (λ x. same_entry a x) (sym h) ∙ ap (λ t. t && same_promise a.1 a.1) (eq-eqb a.0 a.0 refl)
      ∙ (promises a.1 a.1).1 refl,
)

-- the test decides whether they are equal
pub same_sigs-decides : (a b : List (ℕ × Promise)) → Decides (same_sigs a b) (a ≡ b)
same_sigs-decides a b = slice_eq-Decides entries a b (same_sigs a b) refl

-- what tells whether they are equal is the test
pub is_same_sigs : (r : Bool) (a b : List (ℕ × Promise)) → IsTrue r ↔ (a ≡ b) → r ≡ same_sigs a b
is_same_sigs true a b h = sym ((same_sigs-decides a b).1 (h.0 refl))
is_same_sigs false a b h = either (same_sigs a b) refl
  where
    either : (t : Bool) → same_sigs a b ≡ t → false ≡ t
    either true e = h.1 ((same_sigs-decides a b).0 e)
    either false e = refl
