-- The first fault of a program, computed, is the one of the definition.
use Rattle.std.proofs.Common.{◌≡◌, ℕ, zero, suc, ◌<◌, ◌≤◌, List, length, Option, Some, None, refl}
use Rattle.std.proofs.Common.{ap, ap₂, ◌∙◌, arith, subst, ⊎_elim}
use Rattle.std.proofs.lemmas.Bool.{cases_lt}
use Rattle.std.proofs.lemmas.Option.{some_pair_parts}
use Rattle.bpf_decode.specs.declared.op.Op.{Op}
use Rattle.bpf_helpers.specs.Promise.{Promise}
use Rattle.bpf_regstate.specs.States.{Accepts, IsFirstFault, fault_at, first_fault, first_of}
use Rattle.bpf_regstate.specs.States.{found_or}

none_of_both : (o : Option (ℕ × ℕ)) (n : ℕ) (c : Option ℕ) → found_or o n c ≡ None
    → (o ≡ None) × (c ≡ None)
none_of_both None n None e = (refl, refl)
none_of_both None n (Some c) e = absurd cc
none_of_both (Some p) n c e = absurd cc

module _ (f : ℕ → Option ℕ) where
  none_found : (n : ℕ) → first_of f n ≡ None → (k : ℕ) → k < n → f k ≡ None
  none_found zero e k h = absurd (omega arith)
  none_found (suc n) e k h =
      let parts = none_of_both (first_of f n) n (f n) e in
      ⊎_elim (λ (less : k < n). none_found n parts.0 k less)
      (λ (same : n ≤ k). let here : n ≡ k = omega arith in
      subst (λ (j : ℕ). f j ≡ None) here parts.1)
      (cases_lt k n)

  none_there : (n : ℕ) → ((k : ℕ) → k < n → f k ≡ None) → first_of f n ≡ None
  none_there zero h = refl
  none_there (suc n) h =
      ap₂ (λ o c. found_or o n c) (none_there n (λ k less. h k (omega (arith, less))))
      (h n (omega arith))

  record Found (n slot code : ℕ) : Type 0 where
    inside : slot < n
    fault : f slot ≡ Some code
    before : (k : ℕ) → k < slot → f k ≡ None

  found : (n slot code : ℕ) → first_of f n ≡ Some (slot, code) → Found n slot code
  found zero slot code e = absurd cc
  found (suc n) slot code e = by (λ is. found n slot code is) (first_of f n) refl (f n) refl e
    where
      by : (first_of f n ≡ Some (slot, code) → Found n slot code)
          → (o : Option (ℕ × ℕ)) → first_of f n ≡ o → (c : Option ℕ) → f n ≡ c
          → found_or o n c ≡ Some (slot, code) → Found (suc n) slot code
      by more (Some p) is c c-is now =
          let earlier = more (is ∙ now) in
          record {
            inside = omega (arith, earlier.inside);
            fault = earlier.fault;
            before = earlier.before;
          }
      by more None is (Some c) c-is now =
          let p = some_pair_parts n slot c code now in
          record {
            inside = omega (arith, p.0);
            fault = subst (λ (j : ℕ). f j ≡ Some code) p.0 (c-is ∙ ap Some p.1);
            before = λ k h. none_found n is k (omega (arith, h, p.0));
          }
      by more None is None c-is now = absurd cc

module _ (record_length : ℕ) (ops : List Op) (sigs : List (ℕ × Promise)) where
  pub accepts_from : first_fault record_length ops sigs ≡ None → Accepts record_length ops sigs
  accepts_from e slot inside = none_found (fault_at record_length ops sigs) (length ops) e slot inside

  pub accepts_to : Accepts record_length ops sigs → first_fault record_length ops sigs ≡ None
  accepts_to h = none_there (fault_at record_length ops sigs) (length ops) h

  pub first_fault_is : (slot code : ℕ) → first_fault record_length ops sigs ≡ Some (slot, code)
      → IsFirstFault record_length ops sigs slot code
  first_fault_is slot code e =
      let f = found (fault_at record_length ops sigs) (length ops) slot code e in
      record { inside = f.inside; fault = f.fault; before = f.before }
