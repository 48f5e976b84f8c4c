-- Where an oracle over a list of answers leaves a question of a report's programs without one, the
-- list is not what they use.
use Rattle.std.proofs.Common.{◌≡◌, ℕ, zero, suc, Bool, true, false, not, List, [], ◌∷◌, ◌++◌}
use Rattle.std.proofs.Common.{length, Option, Some, None, IsTrue, refl, sym, ap, subst, ◌∙◌}
use Rattle.std.proofs.Common.{append_assoc, append-nil}
use Rattle.std.specs.Prelude.{slice_get}
use Rattle.acdm_record.specs.Fields.{Fields, bytes_of}
use Rattle.bpf_helpers.specs.Promise.{Promise, is_answer}
use Rattle.bpf_helpers.specs.Oracles.{OracleView, is_refused}
use Rattle.bpf_semantics.specs.Machine.{start}
use Rattle.bpf_semantics.specs.Runs.{RunEnds, RunAsks}
use Rattle.bpf_semantics.proofs.Decided.{asks_before_end, ends_once}
use Rattle.bpf_verifier.specs.Verdict.{Verified}
use Rattle.acdm_step.specs.Programs.{Programs, suggestion, with_suggestion}
use Rattle.acdm_step.specs.Ran.{EndsWith, Ran}
use Rattle.acdm_step.specs.Running.{AsksIn, first, second}

append-cancel : (xs ys zs : List ℕ) → xs ++ ys ≡ xs ++ zs → ys ≡ zs
append-cancel [] ys zs e = e
append-cancel (x ∷ xs) ys zs e = append-cancel xs ys zs (cc)

at_length : (log : List ℕ) (answer : ℕ) (others : List ℕ)
    → slice_get (log ++ answer ∷ others) (length log) ≡ Some answer
at_length [] answer others = refl
at_length (x ∷ log) answer others = at_length log answer others

not_both : (b : Bool) → b ≡ true → IsTrue (not b) → ⊥
not_both true e h = cc
not_both false e h = cc

-- the oracle has this list of answers, and gave the first of them
pub record Reads (sigs : List (ℕ × Promise)) (answers : List ℕ) (before : OracleView) : Type 0 where
  pub none : before.log ≡ []
  pub declines : (log : List ℕ) (helper : ℕ) (passed : List ℕ)
      → before.declines log helper passed
      ≡ is_refused sigs (slice_get answers (length log)) helper passed

module _ (sigs : List (ℕ × Promise)) (answers : List ℕ) where
  -- the next answer is promised, so it is not declined
  declined : (log left : List ℕ) (helper : ℕ) (passed : List ℕ) → answers ≡ log ++ left
      → IsTrue (is_refused sigs (slice_get answers (length log)) helper passed)
      → (answer : ℕ) × (others : List ℕ) × (left ≡ answer ∷ others)
      × IsTrue (is_answer sigs helper passed answer) → ⊥
  declined log left helper passed all refused next =
      let there : slice_get answers (length log) ≡ Some next.0 =
      ap (λ l. slice_get l (length log)) (all ∙ ap (λ l. log ++ l) next.2)
      ∙ at_length log next.0 next.1 in
      not_both (is_answer sigs helper passed next.0) next.3
      (subst (λ o. IsTrue (is_refused sigs o helper passed)) there refused)

  -- a program ends with the first of some answers, and asks after the first of them
  asks_late : (ops : List _) (bytes : List ℕ) (moment m : ℕ) (xs ys left right : List ℕ)
      (r0 steps : ℕ) (helper : ℕ) (passed : List ℕ)
      → xs ++ left ≡ ys ++ right → RunEnds ops sigs bytes moment m xs r0 steps
      → RunAsks ops sigs bytes moment m ys helper passed
      → (answer : ℕ) × (others : List ℕ) × (right ≡ answer ∷ others)
      × IsTrue (is_answer sigs helper passed answer)
  asks_late ops bytes moment m xs ys left right r0 zero helper passed e ends asks = absurd ends
  asks_late ops bytes moment m xs ys left right r0 (suc n) helper passed e ends asks =
      asks_before_end ops sigs bytes n asks.0 xs ys left right (start (length bytes) moment m) r0
      helper passed e ends asks.1

  -- where the first program is left without an answer
  first_asks : (p : Option Verified) (v : Verified) (r : Fields) (moment m : ℕ)
      (before after : OracleView)
      (xs others left : List ℕ) (r0 : Option ℕ) → p ≡ Some v → v.sigs ≡ sigs
      → Reads sigs answers before
      → after.log ++ left ≡ answers → answers ≡ xs ++ others → EndsWith p r moment m xs r0
      → (ys : List ℕ) (helper : ℕ) (passed : List ℕ) → after.log ≡ before.log ++ ys
      → RunAsks v.ops v.sigs (bytes_of r) moment m ys helper passed
      → IsTrue (before.declines after.log helper passed) → ⊥
  first_asks p v r moment m before after xs others left r0 there same reads all parts ends ys helper
      passed gained asks refused =
      let run = subst (λ q. EndsWith q r moment m xs r0) there ends in
      let log : after.log ≡ ys = gained ∙ ap (λ l. l ++ ys) reads.none in
      let both : xs ++ others ≡ ys ++ left = sym parts ∙ sym all ∙ ap (λ l. l ++ left) log in
      declined after.log left helper passed (sym all)
      (subst (λ b. IsTrue b) (reads.declines after.log helper passed) refused)
      (asks_late v.ops (bytes_of r) moment m xs ys others left run.0 run.1 helper passed both
      (subst (λ g. RunEnds v.ops g (bytes_of r) moment m xs run.0 run.1) same run.2)
      (subst (λ g. RunAsks v.ops g (bytes_of r) moment m ys helper passed) same asks))

  -- where the second one is, after the first has ended with used
  second_asks : (p : Option Verified) (v : Verified) (r : Fields) (moment m : ℕ) (declines : List ℕ
      → ℕ → List ℕ → Bool)
      (log used xs left : List ℕ) (r0 : Option ℕ) → p ≡ Some v → v.sigs ≡ sigs
      → ((l : List ℕ) (h : ℕ) (q : List ℕ)
      → declines l h q ≡ is_refused sigs (slice_get answers (length l)) h q)
      → log ++ left ≡ answers → answers ≡ used ++ xs → EndsWith p r moment m xs r0
      → (ys : List ℕ) (helper : ℕ) (passed : List ℕ) → log ≡ used ++ ys
      → xs ≡ ys ++ left
      → RunAsks v.ops v.sigs (bytes_of r) moment m ys helper passed
      → IsTrue (declines log helper passed) → ⊥
  second_asks p v r moment m declines log used xs left r0 there same reads all parts ends ys helper
      passed gained rest asks refused =
      let run = subst (λ q. EndsWith q r moment m xs r0) there ends in
      let both : xs ++ [] ≡ ys ++ left = append-nil xs ∙ rest in
      declined log left helper passed (sym all)
      (subst (λ b. IsTrue b) (reads log helper passed) refused)
      (asks_late v.ops (bytes_of r) moment m xs ys [] left run.0 run.1 helper passed both
      (subst (λ g. RunEnds v.ops g (bytes_of r) moment m xs run.0 run.1) same run.2)
      (subst (λ g. RunAsks v.ops g (bytes_of r) moment m ys helper passed) same asks))

  -- a program ends in one way
  ends_so : (p : Option Verified) (r : Fields) (moment m : ℕ) (xs ys left right : List ℕ)
      (a b : Option ℕ)
      → xs ++ left ≡ ys ++ right → EndsWith p r moment m xs a → EndsWith p r moment m ys b
      → (xs ≡ ys) × (a ≡ b)
  ends_so None r moment m xs ys left right a b e f g = (f.0 ∙ sym g.0, f.1 ∙ sym g.1)
  ends_so (Some v) r moment m xs ys left right a b e f g =
      let same = ran_once v (bytes_of r) moment m xs ys left right f.0 f.1 g.0 g.1 e f.2 g.2 in
      (same.0, f.3 ∙ ap (λ n. Some n) same.1 ∙ sym g.3)
    where
      ran_once : (v : Verified) (bytes : List ℕ) (moment m : ℕ) (xs ys left right : List ℕ)
          (r0 n s0 k : ℕ)
          → xs ++ left ≡ ys ++ right → RunEnds v.ops v.sigs bytes moment m xs r0 n
          → RunEnds v.ops v.sigs bytes moment m ys s0 k → (xs ≡ ys) × (r0 ≡ s0)
      ran_once v bytes moment m xs ys left right r0 zero s0 k e f g = absurd f
      ran_once v bytes moment m xs ys left right r0 (suc n) s0 zero e f g = absurd g
      ran_once v bytes moment m xs ys left right r0 (suc n) s0 (suc k) e f g =
          let same = ends_once v.ops v.sigs bytes n k xs ys left right
          (start (length bytes) moment m) r0 s0 e f g in
          (same.0, same.2)

  -- The programs can't both end with exactly these answers.
  pub not_these : (ps : Programs) (r : Fields) (moment m : ℕ) (before after : OracleView)
      (left : List ℕ)
      → ((v : Verified) → ps.tobt ≡ Some v → v.sigs ≡ sigs)
      → ((v : Verified) → ps.alert ≡ Some v → v.sigs ≡ sigs)
      → Reads sigs answers before → after.log ++ left ≡ answers
      → AsksIn ps r moment m before after → Ran ps r moment m answers → ⊥
  not_these ps r moment m before after left tobt alert reads all (first h) ran =
      let say = ran.1 in
      let over = h.2 in
      first_asks ps.tobt h.0 r moment m before after say.first say.second left say.tobt h.1
      (tobt h.0 h.1) reads all
      say.parts say.tobt_ends over.0 over.1 over.2 over.3 over.4 over.5
  not_these ps r moment m before after left tobt alert reads all (second between r0 same ends h)
      ran =
      let say = ran.1 in
      let over = h.2 in
      let gained : between.log ≡ ends.0 = ends.1 ∙ ap (λ l. l ++ ends.0) reads.none in
      let log : after.log ≡ ends.0 ++ over.0 = over.3 ∙ ap (λ l. l ++ over.0) gained in
      let whole : say.first ++ say.second ≡ ends.0 ++ (over.0 ++ left) =
      sym say.parts ∙ sym all ∙ ap (λ l. l ++ left) log ∙ append_assoc ends.0 over.0 left in
      let one = ends_so ps.tobt r moment m say.first ends.0 say.second (over.0 ++ left) say.tobt r0
      whole say.tobt_ends ends.2 in
      let rest : say.second ≡ over.0 ++ left =
      append-cancel ends.0 say.second (over.0 ++ left) (ap (λ l. l ++ say.second) (sym one.0)
      ∙ whole) in
      let alert_ends =
      subst (λ x. EndsWith ps.alert (with_suggestion (suggestion r moment x) r) moment m
      say.second say.alert) one.1 say.alert_ends in
      second_asks ps.alert h.0 (with_suggestion (suggestion r moment r0) r) moment m
      between.declines after.log ends.0 say.second left
      say.alert h.1 (alert h.0 h.1)
      (λ l k q. ap (λ f. f l k q) same.declines ∙ reads.declines l k q) all
      (say.parts ∙ ap (λ l. l ++ say.second) one.0) alert_ends over.0 over.1 over.2 log rest over.4
      over.5
