-- What is computed of the programs of a report is what their runs end with.
use Rattle.std.proofs.Common.{◌≡◌, ℕ, List, [], ◌++◌, Option, Some, None, option_map}
use Rattle.std.proofs.Common.{option_and_then, unwrap_or, refl, sym, ap, subst, ◌∙◌, append_assoc}
use Rattle.std.proofs.Common.{append-nil}
use Rattle.acdm_record.specs.Fields.{Fields, bytes_of}
use Rattle.bpf_semantics.specs.Runs.{result_of}
use Rattle.bpf_semantics.proofs.Results.{ends_result, result_ends}
use Rattle.bpf_verifier.specs.Verdict.{Verified}
use Rattle.acdm_step.specs.Programs.{Programs, no_programs, Effect, no_effect, suggestion}
use Rattle.acdm_step.specs.Programs.{with_suggestion, local_alerts, r0_of, effect_then, effect_with}
use Rattle.acdm_step.specs.History.{left_after}
use Rattle.acdm_step.specs.Ran.{EndsWith, HasEffect, Ran}

-- ---- a run that ends is computed

pub r0_with : (p : Option Verified) (r : Fields) (moment m : ℕ) (used : List ℕ) (r0 : Option ℕ)
    → EndsWith p r moment m used r0
    → (left : List ℕ) → r0_of p r moment m (used ++ left) ≡ Some (r0, left)
r0_with None r moment m used r0 h left =
    ap (λ (us : List ℕ). Some (None, us ++ left)) h.0
    ∙ ap (λ (x : Option ℕ). Some (x, left)) (sym h.1)
r0_with (Some p) r moment m used r0 h left =
    ap (option_map (λ e. (Some e.0, e.1)))
    (ends_result p.ops p.sigs (bytes_of r) moment m used h.0 h.1 h.2 left)
    ∙ ap (λ (x : Option ℕ). Some (x, left)) (sym h.3)

pub say_said : (ps : Programs) (r : Fields) (moment m : ℕ) (used : List ℕ) (s : Effect)
    → HasEffect ps r moment m used s
    → (left : List ℕ) → effect_with ps r moment m (used ++ left) ≡ Some (s, left)
say_said ps r moment m used s h left =
    ap (λ us. effect_with ps r moment m (us ++ left)) h.parts
    ∙ ap (effect_with ps r moment m) (append_assoc h.first h.second left)
    ∙ ap (option_and_then (effect_then ps r moment m))
    (r0_with ps.tobt r moment m h.first h.tobt h.tobt_ends (h.second ++ left))
    ∙ ap (option_map (λ x. (
      record { tobt = suggestion r moment h.tobt; locals = local_alerts x.0 },
      x.1,
    )))
    (r0_with ps.alert (with_suggestion (suggestion r moment h.tobt) r) moment m h.second h.alert
    h.alert_ends left)
    ∙ ap (λ (x : Effect). Some (x, left)) (sym h.effect)

-- ---- what is computed is a run that ends

abbrev pair_of : {A : Type 0} → A → Option (A × List ℕ) → A × List ℕ
pair_of d None = (d, [])
pair_of d (Some p) = p

first_same : {A : Type 0} (a b : A) (us vs : List ℕ)
    → ◌≡◌ {A = Option (A × List ℕ)} (Some (a, us)) (Some (b, vs)) → a ≡ b
first_same a b us vs e = ap (λ o. (pair_of a o).0) e

second_same : {A : Type 0} (a b : A) (us vs : List ℕ)
    → ◌≡◌ {A = Option (A × List ℕ)} (Some (a, us)) (Some (b, vs)) → us ≡ vs
second_same a b us vs e = ap (λ o. (pair_of a o).1) e

-- it used some of the answers, which are not left
pub record Used (p : Option Verified) (r : Fields) (moment m : ℕ) (answers : List ℕ) (r0 : Option ℕ)
    (left : List ℕ) : Type 0 where
  pub used : List ℕ
  pub parts : answers ≡ used ++ left
  pub ends : EndsWith p r moment m used r0

r0_used_some : (p : Verified) (r : Fields) (moment m : ℕ) (answers : List ℕ) (r0 : Option ℕ)
    (left : List ℕ) (o : Option (ℕ × List ℕ))
    → result_of p.ops p.sigs (bytes_of r) moment m answers ≡ o
    → option_map {U = Option ℕ × List ℕ} (λ e. (Some e.0, e.1)) o ≡ Some (r0, left)
    → Used (Some p) r moment m answers r0 left
r0_used_some p r moment m answers r0 left None is e = absurd (cc)
r0_used_some p r moment m answers r0 left (Some x) is e =
    let number : Some x.0 ≡ r0 = first_same (Some x.0) r0 x.1 left e in
    let rest : x.1 ≡ left = second_same (Some x.0) r0 x.1 left e in
    let run = result_ends p.ops p.sigs (bytes_of r) moment m answers x.0 x.1 is in
    record {
      used = run.0;
      parts = run.2
          ∙ ap (λ us. run.0 ++ us) rest;
      ends = (x.0, run.1, run.3, sym number);
    }

r0_used : (p : Option Verified) (r : Fields) (moment m : ℕ) (answers : List ℕ) (r0 : Option ℕ)
    (left : List ℕ)
    → r0_of p r moment m answers ≡ Some (r0, left) → Used p r moment m answers r0 left
r0_used None r moment m answers r0 left e =
    record {
      used = [];
      parts = second_same None r0 answers left e;
      ends = (refl, sym (first_same None r0 answers left e));
    }
r0_used (Some p) r moment m answers r0 left e =
    r0_used_some p r moment m answers r0 left (result_of p.ops p.sigs (bytes_of r) moment m answers)
    refl e

second_said : (ps : Programs) (r : Fields) (moment m : ℕ) (answers : List ℕ) (s : Effect)
    (left : List ℕ) (tobt : Option ℕ) (between : List ℕ)
    (u : Used ps.tobt r moment m answers tobt between)
    (o : Option (Option ℕ × List ℕ))
    → r0_of ps.alert (with_suggestion (suggestion r moment tobt) r) moment m between ≡ o
    → option_map {U = Effect × List ℕ}
    (λ x. (record { tobt = suggestion r moment tobt; locals = local_alerts x.0 }, x.1)) o
    ≡ Some (s, left)
    → (used : List ℕ) × (answers ≡ used ++ left) × HasEffect ps r moment m used s
second_said ps r moment m answers s left tobt between u None is e = absurd (cc)
second_said ps r moment m answers s left tobt between u (Some x) is e =
    let v : Used ps.alert (with_suggestion (suggestion r moment tobt) r) moment m between x.0 x.1 =
    r0_used ps.alert (with_suggestion (suggestion r moment tobt) r) moment m between x.0 x.1 is in
    let what : record { tobt = suggestion r moment tobt; locals = local_alerts x.0 } ≡ s =
    first_same (record { tobt = suggestion r moment tobt; locals = local_alerts x.0 }) s x.1
    left e in
    let rest : x.1 ≡ left = second_same
    (record { tobt = suggestion r moment tobt; locals = local_alerts x.0 }) s x.1 left e in (
      u.used ++ v.used,
      u.parts ∙ ap (λ us. u.used ++ us) (v.parts ∙ ap (λ us. v.used ++ us) rest)
          ∙ sym (append_assoc u.used v.used left),
      record {
        first = u.used;
        second = v.used;
        tobt = tobt;
        alert = x.0;
        parts = refl;
        tobt_ends = u.ends;
        alert_ends = v.ends;
        effect = sym what;
      },
    )

first_said : (ps : Programs) (r : Fields) (moment m : ℕ) (answers : List ℕ) (s : Effect)
    (left : List ℕ) (o : Option (Option ℕ × List ℕ))
    → r0_of ps.tobt r moment m answers ≡ o
    → option_and_then (effect_then ps r moment m) o ≡ Some (s, left)
    → (used : List ℕ) × (answers ≡ used ++ left) × HasEffect ps r moment m used s
first_said ps r moment m answers s left None is e = absurd (cc)
first_said ps r moment m answers s left (Some x) is e =
    second_said ps r moment m answers s left x.0 x.1 (r0_used ps.tobt r moment m answers x.0 x.1 is)
    (r0_of ps.alert (with_suggestion (suggestion r moment x.0) r) moment m x.1) refl e

pub said_say : (ps : Programs) (r : Fields) (moment m : ℕ) (answers : List ℕ) (s : Effect)
    (left : List ℕ)
    → effect_with ps r moment m answers ≡ Some (s, left)
    → (used : List ℕ) × (answers ≡ used ++ left) × HasEffect ps r moment m used s
said_say ps r moment m answers s left e =
    first_said ps r moment m answers s left (r0_of ps.tobt r moment m answers) refl e

-- where no program stands, nothing runs
pub none_ran : (r : Fields) (moment m : ℕ) → HasEffect no_programs r moment m [] no_effect
none_ran r moment m = record {
  first = [];
  second = [];
  tobt = None;
  alert = None;
  parts = refl;
  tobt_ends = (refl, refl);
  alert_ends = (refl, refl);
  effect = refl;
}

-- programs that ran used exactly their answers
pub ran_left : (ps : Programs) (r : Fields) (moment m : ℕ) (used : List ℕ) → Ran ps r moment m used
    → left_after (effect_with ps r moment m used) ≡ Some []
ran_left ps r moment m used h =
    ap (λ us. left_after (effect_with ps r moment m us)) (sym (append-nil used))
    ∙ ap left_after (say_said ps r moment m used h.0 h.1 [])

ran_some : (ps : Programs) (r : Fields) (moment m : ℕ) (answers : List ℕ)
    (o : Option (Effect × List ℕ))
    → effect_with ps r moment m answers ≡ o → left_after o ≡ Some [] → Ran ps r moment m answers
ran_some ps r moment m answers None is e = absurd (cc)
ran_some ps r moment m answers (Some x) is e =
    let none : x.1 ≡ [] = ap (λ (o : Option (List ℕ)). unwrap_or o x.1) e in
    let t = said_say ps r moment m answers x.0 x.1 is in
    let all : answers ≡ t.0 = t.1 ∙ ap (λ us. t.0 ++ us) none ∙ append-nil t.0 in
    (x.0, subst (λ us. HasEffect ps r moment m us x.0) (sym all) t.2)

pub left_ran : (ps : Programs) (r : Fields) (moment m : ℕ) (answers : List ℕ)
    → left_after (effect_with ps r moment m answers) ≡ Some [] → Ran ps r moment m answers
left_ran ps r moment m answers e =
    ran_some ps r moment m answers (effect_with ps r moment m answers) refl e
