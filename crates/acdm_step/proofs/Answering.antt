-- What comes of a command whose answers are those of a list.
use Rattle.std.proofs.Common.{◌≡◌, ◌≢◌, ℕ, Bool, true, false, not, cond, suc, arith, List, [], ◌∷◌}
use Rattle.std.proofs.Common.{◌++◌, length, Option, Some, None, Ok, Err, refl, sym, ap, subst, ◌∙◌, append-nil}
use Rattle.std.proofs.Common.{inl, inr}
use Rattle.std.specs.Prelude.{◌==◌, ◌&&◌, ◌⊎◌, nat_lt, slice_get}
use Rattle.std.specs.List.{list_all}
use Rattle.std.proofs.lemmas.Bool.{eqb-true}
use Rattle.std.proofs.lemmas.Option.{same_Some}
use Rattle.acdm_record.specs.Fields.{Fields, set_number}
use Rattle.bpf_helpers.specs.Promise.{Promise}
use Rattle.bpf_helpers.specs.declared.logged.Logged.{Logged}
use Rattle.bpf_helpers.specs.Oracles.{OracleView, Gained, is_refused, log_of_logged, sigs_of_logged}
use Rattle.bpf_helpers.specs.Oracles.{answers_of_logged, view_of_logged}
use Rattle.acdm_milestones.specs.declared.role.Role.{Role}
use Rattle.acdm_milestones.specs.declared.milestone.Milestone.{Milestone}
use Rattle.bpf_helpers.specs.Same.{same_sigs}
use Rattle.bpf_regstate.specs.Lengths.{same_length}
use Rattle.bpf_regstate.specs.declared.length.Length.{Length}
use Rattle.bpf_regstate.specs.declared.length.Length.TheVariants.{L128, L160}
use Rattle.acdm_milestones.specs.Deicing.{deicing_admission, deicing_field, is_deicing_in_order}
use Rattle.bpf_verifier.specs.Verdict.{Verified}
use Rattle.acdm_milestones.specs.declared.refusal.Refusal.{Refusal}
use Rattle.acdm_milestones.specs.declared.refusal.Refusal.TheVariants.{NotOwner, UnknownFlight}
use Rattle.acdm_milestones.specs.declared.refusal.Refusal.TheVariants.{MissingMilestone, Barred}
use Rattle.acdm_milestones.specs.declared.refusal.Refusal.TheVariants.{NotSet, TimeOrder}
use Rattle.acdm_milestones.specs.declared.refusal.Refusal.TheVariants.{AlreadyPlanned, FullBoard}
use Rattle.acdm_milestones.specs.declared.refusal.Refusal.TheVariants.{OtherLength, OtherSignatures}
use Rattle.acdm_milestones.specs.declared.role.Action.TheVariants as actions
use Rattle.acdm_milestones.specs.Tables.{admission, owns, number, has_reached, needs, bar, is_set}
use Rattle.acdm_milestones.specs.Tables.{needs_set, is_in_order, times_of}
use Rattle.acdm_record.specs.Assign.{with_all}
use Rattle.acdm_step.specs.declared.command.Command.{Command}
use Rattle.acdm_step.specs.declared.command.Command.TheVariants.{Load, Unload, Tick, Migrate, Show}
use Rattle.acdm_step.specs.declared.command.Command.TheVariants.{Alerts}
use Rattle.acdm_step.specs.declared.command.Command.TheVariants.{Schedule, Report, Deice}
use Rattle.acdm_step.specs.declared.entry.Verdict.{Verdict}
use Rattle.acdm_step.specs.declared.entry.Verdict.TheVariants.{Accepted, Refused}
use Rattle.acdm_step.specs.declared.outcome.Outcome.{Outcome}
use Rattle.acdm_step.specs.Laws.{verdict_in-outcome_of}
use Rattle.acdm_step.specs.Ran.{Ran}
use Rattle.acdm_step.specs.Running.{ComesOf, answered_so, unanswered_so}
use Rattle.acdm_step.specs.Commands.{History, flight_of, told_milestone, is_accepted}
use Rattle.acdm_step.specs.InSlots.{program_in, programs_of, record_length_after}
use Rattle.acdm_step.specs.Summaries.{exists, flights, record_of, run_record_of}
use Rattle.acdm_step.specs.Verdicts.{verdict_of, verdict_for, verdict_in, verdict_from, outcome_of}
use Rattle.acdm_step.specs.Verdicts.{obstacle, refused_by, unload_obstacle, unless_refused}
use Rattle.acdm_step.specs.Verdicts.{migrate_obstacle, deice_obstacle}
use Rattle.acdm_step.specs.History.{IsLegal, left_by, left_after}
use Rattle.acdm_step.proofs.Saying.{say_said, left_ran, ran_left}
use Rattle.acdm_step.specs.Planning.{UsesAnswers, lacks_answer}
use Rattle.acdm_step.proofs.Loading.{tobt_checked, alert_checked}
use Rattle.acdm_step.proofs.Unanswered.{Reads, not_these}
use Rattle.acdm_step.specs.declared.verdicts.TheConstants.{MOST_FLIGHTS}

-- ---- no test refuses for want of an answer

admission_tests : (a b c d e : Bool)
    → lacks_answer (verdict_from (cond a (Err NotOwner)
    (cond b (Err MissingMilestone) (cond c (Err Barred)
    (cond d (Err NotSet) (cond e (Err TimeOrder) (Ok tt))))))) ≡ false
admission_tests true b c d e = refl
admission_tests false true c d e = refl
admission_tests false false true d e = refl
admission_tests false false false true e = refl
admission_tests false false false false true = refl
admission_tests false false false false false = refl

admission_answers : (r : Fields) (role : Role) (a : Milestone) (time : ℕ)
    → lacks_answer (verdict_from (admission r role a time)) ≡ false
admission_answers r role a time =
    admission_tests (not (owns role (actions.Report a))) (not (list_all (has_reached r) (needs a)))
    (has_reached r (bar a))
    (not (list_all (is_set r) (needs_set a))) (not (is_in_order (with_all r (times_of a time))))

schedule_tests : (a b c : Bool)
    → lacks_answer (cond a (Refused NotOwner)
    (cond b (Refused AlreadyPlanned) (cond c (Refused FullBoard) Accepted))) ≡ false
schedule_tests true b c = refl
schedule_tests false true c = refl
schedule_tests false false true = refl
schedule_tests false false false = refl

report_tests : (a b c : Bool) (rest : Verdict) → lacks_answer rest ≡ false
    → lacks_answer (cond a (Refused NotOwner)
    (cond b (Refused UnknownFlight) (cond c (Refused FullBoard) rest))) ≡ false
report_tests true b c rest h = refl
report_tests false true c rest h = refl
report_tests false false true rest h = refl
report_tests false false false rest h = h

one_test : (a : Bool) (x y : Verdict) → lacks_answer x ≡ false → lacks_answer y ≡ false
    → lacks_answer (cond a x y) ≡ false
one_test true x y p q = p
one_test false x y p q = q

unless_answers : (against : Option Refusal) (v : Verdict)
    → lacks_answer (refused_by against) ≡ false → lacks_answer v ≡ false
    → lacks_answer (unless_refused against v) ≡ false
unless_answers None v h k = k
unless_answers (Some x) v h k = h

deicing_answers : (a b c : Bool)
    → lacks_answer (verdict_from (cond a (Err MissingMilestone)
    (cond b (Err Barred) (cond c (Err TimeOrder) (Ok tt))))) ≡ false
deicing_answers true b c = refl
deicing_answers false true c = refl
deicing_answers false false true = refl
deicing_answers false false false = refl

verdict_answers : (there : Bool) (count : ℕ) (r : Fields) (against : Option Refusal) (role : Role)
    (c : Command) → lacks_answer (refused_by against) ≡ false
    → lacks_answer (verdict_for there count r against role c) ≡ false
verdict_answers there count r against role (Schedule s) h =
    schedule_tests (not (owns role actions.Schedule)) (has_reached r 0 && has_reached r 1)
    (not there && not (nat_lt count MOST_FLIGHTS))
verdict_answers there count r against role (Report p) h =
    report_tests (not (owns role (actions.Report p.milestone))) (not there
    && not (number p.milestone == 1))
    (not there && not (nat_lt count MOST_FLIGHTS))
    (verdict_from (admission r role p.milestone p.time))
    (admission_answers r role p.milestone p.time)
verdict_answers there count r against role (Deice d) h =
    one_test (not (owns role actions.Deice)) (Refused NotOwner)
    (unless_refused against (cond (not there) (Refused UnknownFlight)
    (verdict_from (deicing_admission r d.which d.time)))) refl
    (unless_answers against _ h (one_test (not there) (Refused UnknownFlight)
    (verdict_from (deicing_admission r d.which d.time)) refl
    (deicing_answers (not (has_reached r 1)) (has_reached r 16)
    (not (is_deicing_in_order (set_number r (deicing_field d.which) d.time))))))
verdict_answers there count r against role (Load l) h =
    one_test (not (owns role actions.Load)) (Refused NotOwner) (refused_by against) refl h
verdict_answers there count r against role (Unload u) h =
    one_test (not (owns role actions.Unload)) (Refused NotOwner) (refused_by against) refl h
verdict_answers there count r against role Tick h =
    one_test (owns role actions.Tick) Accepted (Refused NotOwner) refl refl
verdict_answers there count r against role Migrate h =
    one_test (not (owns role actions.Migrate)) (Refused NotOwner) (refused_by against) refl h
verdict_answers there count r against role (Show f) h =
    one_test there Accepted (Refused UnknownFlight) refl refl
verdict_answers there count r against role Alerts h = refl

-- nothing that the slots have against a command is that
load_answers : (long same : Bool) → lacks_answer (refused_by (cond (not long) (Some OtherLength)
    (cond (not same) (Some OtherSignatures) None))) ≡ false
load_answers true true = refl
load_answers true false = refl
load_answers false same = refl

unload_answers : (p : Option Verified) → lacks_answer (refused_by (unload_obstacle p)) ≡ false
unload_answers None = refl
unload_answers (Some p) = refl

migrate_answers : (l : Length) → lacks_answer (refused_by (migrate_obstacle l)) ≡ false
migrate_answers L128 = refl
migrate_answers L160 = refl

deice_answers : (l : Length) → lacks_answer (refused_by (deice_obstacle l)) ≡ false
deice_answers L128 = refl
deice_answers L160 = refl

obstacle_answers : (sigs : List (ℕ × Promise)) (J : History) (c : Command)
    → lacks_answer (refused_by (obstacle sigs J c)) ≡ false
obstacle_answers sigs J (Load l) =
    load_answers (same_length l.program.record_length (record_length_after J))
    (same_sigs l.program.sigs sigs)
obstacle_answers sigs J (Unload u) = unload_answers (program_in J u.milestone u.kind)
obstacle_answers sigs J Migrate = migrate_answers (record_length_after J)
obstacle_answers sigs J (Deice d) = deice_answers (record_length_after J)
obstacle_answers sigs J _ = refl

-- ---- the oracle

pub reads_of : (logged : Logged) (sigs : List (ℕ × Promise)) (answers : List ℕ)
    → sigs_of_logged logged ≡ sigs
    → answers_of_logged logged ≡ answers → log_of_logged logged ≡ []
    → Reads sigs answers (view_of_logged logged)
reads_of logged sigs answers s a l = record {
  none = l;
  declines = λ log helper passed.
      ap (λ x. is_refused x (slice_get (answers_of_logged logged) (length log)) helper passed) s
      ∙ ap (λ x. is_refused sigs (slice_get x (length log)) helper passed) a;
}

pub some_left : (xs : List ℕ) (b : Bool) → b ≡ (length xs == 0) → b ≡ false → xs ≢ []
some_left [] b e f g = cc
some_left (x ∷ xs) b e f g = cc

pub none_left : (xs : List ℕ) (b : Bool) → b ≡ (length xs == 0) → b ≡ true → xs ≡ []
none_left [] b e f = refl
none_left (x ∷ xs) b e f = absurd (eqb-true-suc (length xs) (sym e ∙ f))
  where
    eqb-true-suc : (n : ℕ) → (suc n == 0) ≡ true → ⊥
    eqb-true-suc n h = omega (arith, eqb-true (suc n) 0 h)

-- ---- what came of a command

module _ (sigs : List (ℕ × Promise)) (J : History) (role : Role) (moment : ℕ) (c : Command)
    (answers left : List ℕ)
    (before after : OracleView) (outcome : Outcome) (legal : IsLegal sigs J)
    (reads : Reads sigs answers before)
    (all : after.log ++ left ≡ answers) where
  clash : (b : Bool) → b ≡ true → b ≡ false → ⊥
  clash b p q = cc

  is_verdict : outcome ≡ outcome_of sigs J role c → verdict_in outcome ≡ verdict_of sigs J role c
  is_verdict is = ap verdict_in is ∙ verdict_in-outcome_of sigs J role c

  -- a question was left without an answer
  pub asked : ComesOf sigs J role moment c before after outcome
      → lacks_answer (verdict_in outcome) ≡ true
      → UsesAnswers sigs J role moment c answers → ⊥
  asked (answered_so used gained same is ran none) lacks uses =
      clash (lacks_answer (verdict_in outcome)) lacks
      (ap lacks_answer (is_verdict is)
      ∙ verdict_answers (exists J (flight_of c)) (length (flights J)) (record_of J (flight_of c))
      (obstacle sigs J c) role c (obstacle_answers sigs J c))
  asked (unanswered_so is accepted asks) lacks uses =
      not_these sigs answers (programs_of J c) (run_record_of J c) moment (told_milestone c) before after
      left
      (tobt_checked sigs J c legal) (alert_checked sigs J c legal) reads all asks
      (left_ran (programs_of J c) (run_record_of J c) moment (told_milestone c) answers
      (uses.used accepted))

  -- the answers that were used, and those that are left
  parts : (used : List ℕ) → Gained before after used → used ++ left ≡ answers
  parts used gained = ap (λ l. l ++ left) (sym (gained ∙ ap (λ l. l ++ used) reads.none)) ∙ all

  either_way : (b : Bool) → (b ≡ true) ⊎ (b ≡ false)
  either_way true = inl refl
  either_way false = inr refl

  -- answers are left over
  pub more : ComesOf sigs J role moment c before after outcome
      → lacks_answer (verdict_in outcome) ≡ false → left ≢ []
      → UsesAnswers sigs J role moment c answers → ⊥
  more (unanswered_so is accepted asks) lacks some uses =
      clash (lacks_answer (verdict_in outcome)) (ap (λ o. lacks_answer (verdict_in o)) is) lacks
  more (answered_so used gained same is ran none) lacks some uses =
      elim (either_way (is_accepted (verdict_of sigs J role c))) [
        | inl accepted ↦
            let r = ran accepted in
            let effect = say_said (programs_of J c) (run_record_of J c) moment (told_milestone c) used r.0
            r.1 left in
            let rest : left_by J c moment answers ≡ Some left =
            ap (left_by J c moment) (sym (parts used gained)) ∙ ap left_after effect in
            some (same_Some left [] (sym rest ∙ uses.used accepted))
        | inr refused ↦
            some (ap (λ l. l ++ left) (sym (none refused)) ∙ parts used gained
            ∙ uses.unused refused)
      ]

  -- all were used
  pub record Used : Type 0 where
    pub uses : UsesAnswers sigs J role moment c answers
    pub verdict_is : verdict_in outcome ≡ verdict_of sigs J role c
    pub gained : Gained before after answers

  pub used_up : ComesOf sigs J role moment c before after outcome
      → lacks_answer (verdict_in outcome) ≡ false → left ≡ [] → Used
  used_up (unanswered_so is accepted asks) lacks none =
      absurd (clash (lacks_answer (verdict_in outcome)) (ap (λ o. lacks_answer (verdict_in o)) is)
      lacks)
  used_up (answered_so used gained same is ran no_answer) lacks none =
      let these : used ≡ answers = sym (append-nil used) ∙ ap (λ l. used ++ l) (sym none)
      ∙ parts used gained in
      record {
        uses = record {
          used = λ accepted.
              ran_left (programs_of J c) (run_record_of J c) moment (told_milestone c) answers
              (subst (λ us. Ran (programs_of J c) (run_record_of J c) moment (told_milestone c) us) these
              (ran accepted));
          unused = λ refused. sym these ∙ no_answer refused;
        };
        verdict_is = is_verdict is;
        gained = gained ∙ ap (λ us. before.log ++ us) these;
      }
