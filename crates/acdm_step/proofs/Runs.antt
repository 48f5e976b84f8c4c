-- Runs of the programs of a report, one after the other, and what they leave of the answers.
use Rattle.std.proofs.Common.{◌≡◌, ℕ, true, ◌||◌, ◌+◌, ◌<◌, ◌≤◌, List, [], ◌++◌}
use Rattle.std.proofs.Common.{length, Option, Some, refl, sym, ap, subst, ◌∙◌, append_assoc}
use Rattle.std.proofs.Common.{append-nil, length-append, arith}
use Rattle.std.proofs.Math.Bool.{or-true}
use Rattle.acdm_record.specs.Fields.{Fields, bytes_of}
use Rattle.bpf_decode.specs.declared.op.Op.{Op}
use Rattle.bpf_helpers.specs.Promise.{Promise}
use Rattle.bpf_helpers.specs.Oracles.{OracleView, SameRule, Unasked}
use Rattle.bpf_semantics.specs.Runs.{RunEnds}
use Rattle.bpf_semantics.proofs.Questions.{end_uses_fewer, run_asks_calls}
use Rattle.bpf_regstate.specs.States.{instruction_count}
use Rattle.bpf_verifier.specs.Verdict.{Verified}
use Rattle.bpf_run.specs.declared.outcome.Ended.{Ended}
use Rattle.bpf_run.specs.Ends.{AsksOver, EndsOver}
use Rattle.acdm_slots.specs.Loaded.{Loaded}
use Rattle.acdm_step.specs.declared.command.Command.{Command}
use Rattle.acdm_step.specs.declared.command.Command.TheVariants.{Schedule, Deice}
use Rattle.acdm_step.specs.declared.command.Deice as deice
use Rattle.acdm_step.specs.Facts.{ScheduleFacts}
use Rattle.acdm_step.specs.Programs.{Programs, no_programs, no_effect, suggestion, with_suggestion, local_alerts}
use Rattle.acdm_step.specs.Programs.{with_local_alerts, with_effect}
use Rattle.acdm_step.specs.Commands.{told_milestone}
use Rattle.acdm_step.specs.InSlots.{may_ask, size_of}
use Rattle.acdm_step.specs.Board.{assigned_to, touched, programs_on}
use Rattle.acdm_step.specs.Ran.{EndsWith, HasEffect}
use Rattle.acdm_step.specs.Running.{EndsAt, AsksAt, EndsIn, AsksIn, first, second, ChangesTo}
use Rattle.acdm_step.proofs.Saying.{none_ran}

-- the program that stands in a slot has run to its end
pub ends_at : (p : Option Verified) (v : Verified) (r : Fields) (moment m : ℕ)
    (from to : OracleView) (ended : Ended) (ops : List Op) (sigs : List (ℕ × Promise))
    (bytes : List ℕ)
    → p ≡ Some v → ops ≡ v.ops → sigs ≡ v.sigs → bytes ≡ bytes_of r
    → EndsOver ops sigs bytes moment m from to ended → ended.steps ≤ instruction_count ops
    → to.refusals ≡ from.refusals → EndsAt p r moment m from to (Some ended.r0)
ends_at p v r moment m from to ended ops sigs bytes there eo es eb h few counts =
    let run : RunEnds v.ops v.sigs (bytes_of r) moment m h.0 ended.r0 ended.steps =
    subst (λ o. RunEnds o v.sigs (bytes_of r) moment m h.0 ended.r0 ended.steps) eo
    (subst (λ s. RunEnds ops s (bytes_of r) moment m h.0 ended.r0 ended.steps) es
    (subst (λ b. RunEnds ops sigs b moment m h.0 ended.r0 ended.steps) eb h.2)) in
    let used : length h.0 < ended.steps =
    end_uses_fewer v.ops v.sigs (bytes_of r) moment m h.0 ended.r0 ended.steps run in
    let size : instruction_count ops ≡ size_of p = ap instruction_count eo
    ∙ ap size_of (sym there) in (
      h.0,
      h.1,
      subst (λ x. EndsWith x r moment m h.0 (Some ended.r0)) (sym there) (
        ended.r0,
        ended.steps,
        run,
        refl,
      ),
      omega (arith, used, few, size),
      counts,
    )

-- it is left without an answer
pub asks_at : (p : Option Verified) (v : Verified) (r : Fields) (moment m : ℕ)
    (from to : OracleView) (bytes : List ℕ) → p ≡ Some v → bytes ≡ bytes_of r
    → AsksOver v.ops v.sigs bytes moment m from to
    → length to.log < length from.log + instruction_count v.ops
    → to.refusals ≡ from.refusals + 1 → AsksAt p r moment m from to
asks_at p v r moment m from to bytes there eb h few counts =
    let size : instruction_count v.ops ≡ size_of p = ap size_of (sym there) in (
      v,
      there,
      subst (λ b. AsksOver v.ops v.sigs b moment m from to) eb h,
      omega (arith, few, size),
      counts,
    )

-- fewer answers are gained than both programs have instructions where the oracle declines one
pub asked_few : (ps : Programs) (r : Fields) (moment m : ℕ) (from to : OracleView)
    → AsksIn ps r moment m from to
    → length to.log < length from.log + (size_of ps.tobt + size_of ps.alert)
asked_few ps r moment m from to (first h) = omega (arith, h.3)
asked_few ps r moment m from to (second between r0 same ends h) =
    let gained : length between.log ≡ length from.log + length ends.0 = ap length ends.1
    ∙ length-append from.log ends.0 in
    omega (arith, h.3, gained, ends.3)

-- and one of them calls a helper
pub asked_calls : (ps : Programs) (r : Fields) (moment m : ℕ) (from to : OracleView)
    → AsksIn ps r moment m from to → (may_ask ps.tobt || may_ask ps.alert) ≡ true
asked_calls ps r moment m from to (first h) =
    ap (λ b. b || may_ask ps.alert)
    (ap may_ask h.1 ∙ run_asks_calls _ _ _ _ _ h.2.0 h.2.1 h.2.2 h.2.4)
asked_calls ps r moment m from to (second between r0 same ends h) =
    ap (λ b. may_ask ps.tobt || b)
    (ap may_ask h.1 ∙ run_asks_calls _ _ _ _ _ h.2.0 h.2.1 h.2.2 h.2.4)
    ∙ or-true (may_ask ps.tobt)

module _ (ps : Programs) (r next : Fields) (moment m : ℕ) (from between to : OracleView)
    (r0 : Option ℕ) (same : SameRule from between)
    (ends : EndsAt ps.tobt r moment m from between r0)
    (is : next ≡ with_suggestion (suggestion r moment r0) r) where
  -- the second one is left without an answer
  pub asks_second : AsksAt ps.alert next moment m between to → AsksIn ps r moment m from to
  asks_second h = second between r0 same ends
      (subst (λ x. AsksAt ps.alert x moment m between to) is h)

  -- both have ended
  pub ends_in : (last : Fields) (more : Option ℕ) → EndsAt ps.alert next moment m between to more
      → last ≡ with_local_alerts (local_alerts more) next
      → EndsIn ps r moment m from to last
  ends_in last more h e = (
    ends.0 ++ h.0,
    record { tobt = suggestion r moment r0; locals = local_alerts more },
    h.1 ∙ ap (λ l. l ++ h.0) ends.1 ∙ append_assoc from.log ends.0 h.0,
    record {
      first = ends.0;
      second = h.0;
      tobt = r0;
      alert = more;
      parts = refl;
      tobt_ends = ends.2;
      alert_ends = subst (λ x. EndsWith ps.alert x moment m h.0 more) is h.2;
      effect = refl;
    },
    e ∙ ap (with_local_alerts (local_alerts more)) is,
    h.4 ∙ ends.4,
  )

-- an accepted report has changed its record
pub changes_to : (ps : Programs) (r a s new : Fields) (moment m : ℕ) (c : Command)
    (from to : OracleView) → a ≡ assigned_to r c → m ≡ told_milestone c
    → EndsIn ps a moment m from to s → new ≡ touched moment s → ChangesTo ps r moment c from to new
changes_to ps r a s new moment m c from to ea em h e = (
  h.0,
  h.1,
  h.2,
  subst (λ n. HasEffect ps (assigned_to r c) moment n h.0 h.1) em
      (subst (λ x. HasEffect ps x moment m h.0 h.1) ea h.3),
  e ∙ ap (touched moment) (h.4 ∙ ap (with_effect h.1) ea),
  h.5,
)

-- an accepted command without programs has
module _ (l : Loaded) (r a new : Fields) (moment : ℕ) (k : Command) (from to : OracleView)
    (e : new ≡ touched moment a) (same : Unasked from to) where
  changes_alone : (c : Command) → k ≡ c → a ≡ assigned_to r c
      → programs_on l c ≡ no_programs
      → ChangesTo (programs_on l k) r moment k from to new
  changes_alone c is ea none =
      subst (λ x. ChangesTo (programs_on l x) r moment x from to
      new) (sym is) (
        [],
        no_effect,
        same.log ∙ sym (append-nil from.log),
        subst (λ ps. HasEffect ps (assigned_to r c) moment
            (told_milestone c) [] no_effect) (sym none)
            (none_ran (assigned_to r c) moment
            (told_milestone c)),
        e ∙ ap (touched moment) ea,
        same.refusals,
      )

  pub changes_scheduled : (s : ScheduleFacts) → k ≡ Schedule s
      → a ≡ assigned_to r (Schedule s)
      → ChangesTo (programs_on l k) r moment k from to new
  changes_scheduled s is ea = changes_alone (Schedule s) is ea refl

  pub changes_deiced : (d : deice.Deice) → k ≡ Deice d
      → a ≡ assigned_to r (Deice d)
      → ChangesTo (programs_on l k) r moment k from to new
  changes_deiced d is ea = changes_alone (Deice d) is ea refl
