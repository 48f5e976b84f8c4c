-- The result of a run that is computed from its answers is that of the run that ends.
use Rattle.std.proofs.Common.{◌≡◌, ℕ, zero, suc, ◌+◌, ◌<◌, ◌≤◌, List, [], ◌∷◌, ◌++◌, length, Bool}
use Rattle.std.proofs.Common.{true, false, if◌then◌else◌, Option, Some, None, refl, sym, ap, ◌∙◌}
use Rattle.std.proofs.Common.{arith}
use Rattle.std.specs.Prelude.{slice_get}
use Rattle.std.proofs.lemmas.Option.{slice_get_within}
use Rattle.bpf_decode.specs.declared.op.Op.{Op}
use Rattle.bpf_helpers.specs.Promise.{Promise, is_answer}
use Rattle.bpf_semantics.specs.Machine.{Machine, Action, Goes, Asks, Ends, Stuck, ◌>>=◌, act_on}
use Rattle.bpf_semantics.specs.Machine.{action, answered, start}
use Rattle.bpf_semantics.specs.Runs.{follow, after, Reaches, Comes, RunEnds, finish, run_with}
use Rattle.bpf_semantics.specs.Runs.{result_of}
use Rattle.bpf_semantics.proofs.Decided.{ends_once}
use Rattle.bpf_semantics.proofs.Forward.{LeadsOn, leads_on}

abbrev pair_of : Option (ℕ × List ℕ) → ℕ × List ℕ
pair_of None = (0, [])
pair_of (Some p) = p

module _ (ops : List Op) (sigs : List (ℕ × Promise)) (record_bytes : List ℕ) where
  -- ---- steps rise

  if_some : {A : Type 0} (t : Bool) (go : Option A) (x : A) → (if t then go else None) ≡ Some x
      → (t ≡ true) × (go ≡ Some x)
  if_some true go x e = (refl, e)
  if_some false go x e = absurd (cc)

  step_rises : (act : Action) (m end : Machine) (n : ℕ) (answers : List ℕ) → LeadsOn ops m.slot act
      → ((xs : List ℕ) (x : Machine) → after ops sigs record_bytes n xs x ≡ Some end
      → x.slot + n ≤ end.slot)
      → follow sigs act m (after ops sigs record_bytes n) answers ≡ Some end
      → m.slot + suc n ≤ end.slot
  step_rises (Goes next) m end n answers leads on e =
      omega (arith, on answers next e, (leads.goes next refl).0)
  step_rises (Asks helper passed) m end n [] leads on e = absurd (cc)
  step_rises (Asks helper passed) m end n (answer ∷ answers) leads on e =
      let later : (answered m answer).slot + n ≤ end.slot =
      on answers (answered m answer) (if_some (is_answer sigs helper passed answer) _ end e).1
      in
      omega (arith, later)
  step_rises (Ends r) m end n answers leads on e = absurd (cc)
  step_rises Stuck m end n answers leads on e = absurd (cc)

  rises : (n : ℕ) (answers : List ℕ) (m end : Machine)
      → Reaches ops sigs record_bytes m answers n end → m.slot + n ≤ end.slot
  rises zero [] m end e =
      let same : m ≡ end = cc in
      let slots : m.slot ≡ end.slot = ap (λ (x : Machine). x.slot) same in
      omega (arith, slots)
  rises zero (answer ∷ answers) m end e = absurd (cc)
  rises (suc n) answers m end e =
      step_rises (action ops sigs record_bytes m) m end n answers (leads_on ops sigs record_bytes m)
      (λ xs x. rises n xs x end) e

  -- an exit stands inside the program
  ends_inside : (end : Machine) (r : ℕ) → action ops sigs record_bytes end ≡ Ends r
      → end.slot < length ops
  ends_inside end r e = at (slice_get ops end.slot) refl e
    where
      at : (o : Option Op) → slice_get ops end.slot ≡ o
          → (o >>= λ op. act_on ops sigs record_bytes end op) ≡ Ends r → end.slot < length ops
      at None read h = absurd (cc)
      at (Some op) read h = slice_get_within ops end.slot op read

  -- ---- a run that ends gives its result

  finishes : (act : Action) (m end : Machine) (n k r : ℕ) (used left : List ℕ)
      → ((xs : List ℕ) (x : Machine) → after ops sigs record_bytes n xs x ≡ Some end
      → run_with ops sigs record_bytes k (xs ++ left) x ≡ Some (r, left))
      → follow sigs act m (after ops sigs record_bytes n) used ≡ Some end
      → finish sigs act m (run_with ops sigs record_bytes k) (used ++ left) ≡ Some (r, left)
  finishes (Goes next) m end n k r used left on e = on used next e
  finishes (Asks helper passed) m end n k r [] left on e = absurd (cc)
  finishes (Asks helper passed) m end n k r (answer ∷ used) left on e =
      let p : (is_answer sigs helper passed answer ≡ true)
      × (after ops sigs record_bytes n used (answered m answer) ≡ Some end) =
      if_some (is_answer sigs helper passed answer) _ end e in
      rw p.0 (on used (answered m answer) p.1)
  finishes (Ends s) m end n k r used left on e = absurd (cc)
  finishes Stuck m end n k r used left on e = absurd (cc)

  pub comes_result : (n k : ℕ) (used left : List ℕ) (m : Machine) (r : ℕ)
      → n < k → Comes ops sigs record_bytes m used n (Ends r)
      → run_with ops sigs record_bytes k (used ++ left) m ≡ Some (r, left)
  comes_result n zero used left m r few c = absurd (omega (arith, few))
  comes_result zero (suc k) [] left m r few c =
      let same : c.0 ≡ m = cc in
      let ends : action ops sigs record_bytes m ≡ Ends r =
      sym (ap (action ops sigs record_bytes) same) ∙ c.2 in
      rw ends refl
  comes_result zero (suc k) (answer ∷ used) left m r few c = absurd (cc)
  comes_result (suc n) (suc k) used left m r few c =
      finishes (action ops sigs record_bytes m) m c.0 n k r used left
      (λ xs x e. comes_result n k xs left x r (omega (arith, few)) (c.0, e, c.2)) c.1

  -- ---- a result is that of a run that ends

  -- of the answers some were used by a run of fewer than so many steps to an exit, and these are
  -- left
  pub record Finished (k : ℕ) (answers left : List ℕ) (m : Machine) (r : ℕ) : Type 0 where
    pub used : List ℕ
    pub steps : ℕ
    pub few : steps < k
    pub taken : answers ≡ used ++ left
    pub comes : Comes ops sigs record_bytes m used steps (Ends r)

  answer_later : (m : Machine) (k r helper : ℕ) (passed : List ℕ) (answer : ℕ)
      (answers left : List ℕ)
      → action ops sigs record_bytes m ≡ Asks helper passed
      → is_answer sigs helper passed answer ≡ true
      → Finished k answers left (answered m answer) r → Finished (suc k) (answer ∷ answers) left m r
  answer_later m k r helper passed answer answers left does promised f =
      let reaches : Reaches ops sigs record_bytes m (answer ∷ f.used) (suc f.steps) f.comes.0 =
      rw (does, promised) f.comes.1 in
      record {
        used = answer ∷ f.used;
        steps = suc f.steps;
        few = omega (arith, f.few);
        taken = ap (λ (xs : List ℕ). answer ∷ xs) f.taken;
        comes = (f.comes.0, reaches, f.comes.2);
      }

  one_later : (act : Action) (m : Machine) (k r : ℕ) (answers left : List ℕ)
      → action ops sigs record_bytes m ≡ act
      → ((xs : List ℕ) (x : Machine) → run_with ops sigs record_bytes k xs x ≡ Some (r, left)
      → Finished k xs left x r)
      → finish sigs act m (run_with ops sigs record_bytes k) answers ≡ Some (r, left)
      → Finished (suc k) answers left m r
  one_later (Goes next) m k r answers left does on e =
      let f : Finished k answers left next r = on answers next e in
      record {
        used = f.used;
        steps = suc f.steps;
        few = omega (arith, f.few);
        taken = f.taken;
        comes = (f.comes.0, rw does f.comes.1, f.comes.2);
      }
  one_later (Asks helper passed) m k r [] left does on e = absurd (cc)
  one_later (Asks helper passed) m k r (answer ∷ answers) left does on e =
      let p : (is_answer sigs helper passed answer ≡ true)
      × (run_with ops sigs record_bytes k answers (answered m answer) ≡ Some (r, left)) =
      if_some (is_answer sigs helper passed answer) _ (r, left) e in
      answer_later m k r helper passed answer answers left does p.0
      (on answers (answered m answer) p.1)
  one_later (Ends s) m k r answers left does on e =
      let same : answers ≡ left = ap (λ (o : Option (ℕ × List ℕ)). (pair_of o).1) e in
      let number : Ends s ≡ Ends r = ap (λ (o : Option (ℕ × List ℕ)). Ends ((pair_of o).0)) e in
      record {
        used = [];
        steps = 0;
        few = omega arith;
        taken = same;
        comes = (m, refl, does ∙ number);
      }
  one_later Stuck m k r answers left does on e = absurd (cc)

  pub result_comes : (k : ℕ) (answers left : List ℕ) (m : Machine) (r : ℕ)
      → run_with ops sigs record_bytes k answers m ≡ Some (r, left) → Finished k answers left m r
  result_comes zero answers left m r e = absurd (cc)
  result_comes (suc k) answers left m r e =
      one_later (action ops sigs record_bytes m) m k r answers left refl
      (λ xs x. result_comes k xs left x r) e

-- a run that ends has its r0 as result, and leaves what answers it didn't use
pub ends_result : (ops : List Op) (sigs : List (ℕ × Promise)) (record_bytes : List ℕ)
    (moment milestone : ℕ) (used : List ℕ) (r0 n : ℕ)
    → RunEnds ops sigs record_bytes moment milestone used r0 n → (left : List ℕ)
    → result_of ops sigs record_bytes moment milestone (used ++ left) ≡ Some (r0, left)
ends_result ops sigs record_bytes moment milestone used r0 zero run left = absurd run
ends_result ops sigs record_bytes moment milestone used r0 (suc n) run left =
    let first : Machine = start (length record_bytes) moment milestone in
    let risen : first.slot + n ≤ run.0.slot =
    rises ops sigs record_bytes n used first run.0 run.1 in
    comes_result ops sigs record_bytes n (length ops) used left first r0
    (omega (arith, risen, ends_inside ops sigs record_bytes run.0 r0 run.2)) run

-- a result is the r0 of a run that ends, which used the answers that aren't left
pub result_ends : (ops : List Op) (sigs : List (ℕ × Promise)) (record_bytes : List ℕ)
    (moment milestone : ℕ) (answers : List ℕ) (r0 : ℕ) (left : List ℕ)
    → result_of ops sigs record_bytes moment milestone answers ≡ Some (r0, left)
    → (used : List ℕ) × (n : ℕ) × (answers ≡ used ++ left)
    × RunEnds ops sigs record_bytes moment milestone used r0 n
result_ends ops sigs record_bytes moment milestone answers r0 left e =
    let f : Finished ops sigs record_bytes (length ops) answers left
    (start (length record_bytes) moment milestone) r0 =
    result_comes ops sigs record_bytes (length ops) answers left
    (start (length record_bytes) moment milestone) r0 e in
    (f.used, suc f.steps, f.taken, f.comes)

-- answers decide how a run from the start ends
pub end_is_one : (ops : List Op) (sigs : List (ℕ × Promise)) (record_bytes : List ℕ)
    (moment milestone : ℕ) (used others left right : List ℕ) (r0 s0 n k : ℕ)
    → used ++ left ≡ others ++ right → RunEnds ops sigs record_bytes moment milestone used r0 n
    → RunEnds ops sigs record_bytes moment milestone others s0 k
    → (used ≡ others) × (n ≡ k) × (r0 ≡ s0)
end_is_one ops sigs record_bytes moment milestone used others left right r0 s0 zero k same run
    other = absurd run
end_is_one ops sigs record_bytes moment milestone used others left right r0 s0 (suc n) zero same run
    other = absurd other
end_is_one ops sigs record_bytes moment milestone used others left right r0 s0 (suc n) (suc k) same
    run other =
    let t = ends_once ops sigs record_bytes n k used others left right
    (start (length record_bytes) moment milestone) r0 s0 same run other in
    (t.0, ap suc t.1, t.2)
