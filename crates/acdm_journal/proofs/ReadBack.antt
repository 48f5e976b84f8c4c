-- A line that may stand is read as what it states, and no other line is read.
use Rattle.std.proofs.Common.{◌≡◌, ℕ, zero, suc, ◌≤◌, true, false, List, [], ◌∷◌, ◌++◌, length, map}
use Rattle.std.proofs.Common.{codes, Option, Some, None, refl, sym, ap, subst, ◌∙◌, arith, inl, inr}
use Rattle.std.proofs.Common.{append_assoc, append-nil, ◌<◌, ◌-◌, ◌^◌}
use Rattle.std.specs.Fmt.{decimal}
use Rattle.std.specs.Str.{bytes_eq}
use Rattle.std.specs.List.{AllByRecursion}
use Rattle.std.proofs.lemmas.Option.{some_pair_parts}
use Rattle.std.proofs.lemmas.Bool.Decides.{nat_tests}
use Rattle.std.proofs.lemmas.Slice.Eq.{bytes_eq-Decides}
use Rattle.acdm_milestones.specs.declared.milestone.Milestone.{Milestone}
use Rattle.acdm_milestones.specs.declared.milestone.Milestone.TheVariants as m
use Rattle.acdm_step.specs.Facts.{ScheduleFacts, ReportFacts, has_its_plan, has_its_time}
use Rattle.acdm_step.specs.declared.command.TheConstants.{MINUTES_OF_DAY}
use Rattle.acdm_step.specs.declared.command.FlightPlan.{FlightPlan}
use Rattle.acdm_step.specs.declared.command.Command.{Command}
use Rattle.acdm_step.specs.declared.command.Command.TheVariants as commands
use Rattle.acdm_step.specs.declared.command.Command.TheVariants.{Schedule, Report, Deice}
use Rattle.acdm_step.specs.declared.command.Deice.{Deice as DeiceLine}
use Rattle.acdm_step.specs.Commands.{is_load}
use Rattle.acdm_journal.specs.declared.stated.Stated.{Stated}
use Rattle.acdm_step.specs.declared.stated.LoadRequest.{LoadRequest}
use Rattle.acdm_step.specs.declared.stated.StatedCommand.{StatedCommand}
use Rattle.acdm_step.specs.declared.stated.StatedCommand.TheVariants.{Plain, Load}
use Rattle.acdm_journal.specs.Text.{plan_words, plan_words_of, schedule_words, report_words}
use Rattle.acdm_journal.specs.Text.{load_words, command_words, asked_words, answer_words}
use Rattle.acdm_journal.specs.Text.{line_words, deice_words}
use Rattle.acdm_journal.specs.Ranges.{IsPlan, IsPlanOf, IsWord, IsByte, IsScheduleLine}
use Rattle.acdm_journal.specs.Ranges.{IsReportLine, IsCommandLine, IsAsked, IsStated}
use Rattle.acdm_journal.specs.Reading.{Words, most_word, most_minute, word_at, number_at, text_at}
use Rattle.acdm_journal.specs.Reading.{role_at, kind_at, milestone_at, bytes_at, plan_at, plan_for}
use Rattle.acdm_journal.specs.Reading.{least_time, schedule_at, report_at, load_at, unload_at}
use Rattle.acdm_journal.specs.Reading.{show_at, command_named, asked_at, answers_from, answers_at}
use Rattle.acdm_journal.specs.Reading.{stated_at, deicing_at, deice_at, length_at}
use Rattle.acdm_journal.proofs.Parts.{bind_some, bind_is, given, word_at-back, number_at-is}
use Rattle.acdm_journal.proofs.Parts.{number_at-back, text_at-is, text_at-back, role_at-is}
use Rattle.acdm_journal.proofs.Parts.{role_at-back, kind_at-is, kind_at-back, milestone_at-is}
use Rattle.acdm_journal.proofs.Parts.{milestone_at-back, bytes_at-is, bytes_at-back, if_some}
use Rattle.acdm_journal.proofs.Parts.{deicing_at-is, deicing_at-back, length_at-is, length_at-back}
use Rattle.acdm_milestones.specs.Names.{role_name}

-- ---- plans

pub plan_at-is : (p : FlightPlan) (ws : Words) → IsPlan p → plan_at (plan_words p ++ ws) ≡ Some (p, ws)
unfolding plan_at
plan_at-is p ws is =
    bind_is _ _ _ (text_at-is 8 p.callsign _ is.callsign)
    ∙ bind_is _ _ _ (text_at-is 4 p.aircraft _ is.aircraft)
    ∙ bind_is _ _ _ (text_at-is 8 p.registration _ is.registration)
    ∙ bind_is _ _ _ (text_at-is 4 p.destination ws is.destination)

pub record ReadsPlan (ws : Words) (p : FlightPlan) (left : Words) : Type 0 where
  pub words : ws ≡ plan_words p ++ left
  pub is : IsPlan p

pub plan_at-back : (ws : Words) (p : FlightPlan) (left : Words) → plan_at ws ≡ Some (p, left)
    → ReadsPlan ws p left
unfolding plan_at
plan_at-back ws p left h =
    let c = bind_some (text_at 8 ws) _ (p, left) h in
    let a = bind_some (text_at 4 c.0.1) _ (p, left) c.2 in
    let r = bind_some (text_at 8 a.0.1) _ (p, left) a.2 in
    let d = bind_some (text_at 4 r.0.1) _ (p, left) r.2 in
    let cb = text_at-back 8 ws c.0.0 c.0.1 c.1 in
    let ab = text_at-back 4 c.0.1 a.0.0 a.0.1 a.1 in
    let rb = text_at-back 8 a.0.1 r.0.0 r.0.1 r.1 in
    let db = text_at-back 4 r.0.1 d.0.0 d.0.1 d.1 in
    given (ReadsPlan ws) _ p _ left d.2 (record {
      words = cc (cb.0, ab.0, rb.0, db.0);
      is = record { callsign = cb.1; aircraft = ab.1; registration = rb.1; destination = db.1 };
    })

-- a plan comes with the first milestone alone
pub plan_for-is : (a : Milestone) (p : Option FlightPlan) (ws : Words) → has_its_plan a p ≡ true
    → IsPlanOf p → plan_for a (plan_words_of p ++ ws) ≡ Some (p, ws)
plan_for-is m.FlightPlanActivated (Some p) ws has is = bind_is _ _ _ (plan_at-is p ws is)
plan_for-is m.FlightPlanActivated None ws has is = absurd (cc)
plan_for-is _ None ws has is = refl
plan_for-is _ (Some p) ws has is = absurd (cc)

pub record ReadsPlanFor (a : Milestone) (ws : Words) (p : Option FlightPlan) (left : Words) : Type 0 where
  pub words : ws ≡ plan_words_of p ++ left
  pub is : IsPlanOf p
  pub has : has_its_plan a p ≡ true

pub plan_for-back : (a : Milestone) (ws : Words) (p : Option FlightPlan) (left : Words)
    → plan_for a ws ≡ Some (p, left) → ReadsPlanFor a ws p left
plan_for-back m.FlightPlanActivated ws p left h =
    let q = bind_some (plan_at ws) _ (p, left) h in
    let back = plan_at-back ws q.0.0 q.0.1 q.1 in
    given (ReadsPlanFor m.FlightPlanActivated ws) _ p _ left q.2
    (record { words = back.words; is = back.is; has = refl })
plan_for-back a ws p left h =
    given (λ x l. ReadsPlanFor a ws x l) None p ws left h
    (record { words = refl; is = tt; has = refl })

-- ---- commands

-- the words are those of what is asked for, and then others
pub record ReadsAsked (ws : Words) (a : StatedCommand) (left : Words) : Type 0 where
  pub words : ws ≡ asked_words a ++ left
  pub is : IsAsked a

schedule_at-is : (s : ScheduleFacts) → IsScheduleLine s
    → asked_at (schedule_words s) ≡ Some (Plain (Schedule s), [])
unfolding asked_at command_named schedule_at
schedule_at-is s is =
    let k = is.kept in
    bind_is _ _ _ (number_at-is 1 most_word s.flight _ k.flight_given (omega (arith, is.flight))
    is.flight)
    ∙ bind_is _ _ _ (plan_at-is s.plan _ is.plan)
    ∙ bind_is _ _ _ (number_at-is 1 most_minute s.sobt _ k.sobt_given (omega (arith, is.sobt))
    (omega (arith, is.sobt)))
    ∙ bind_is _ _ _ (number_at-is 0 MINUTES_OF_DAY s.mttt _ (omega arith) k.mttt_in_range
    (omega (arith, k.mttt_in_range)))
    ∙ bind_is _ _ _ (number_at-is 0 255 s.exit _ (omega arith) (omega (arith, is.exit))
    (omega (arith, is.exit)))
    ∙ bind_is _ _ _ (number_at-is 0 MINUTES_OF_DAY s.exot _ (omega arith) k.exot_in_range
    (omega (arith, k.exot_in_range)))
    ∙ bind_is _ _ _ (number_at-is 0 65535 s.stand [] (omega arith) (omega (arith, is.stand))
    (omega (arith, is.stand)))

-- the words of a schedule, each read of those that the one before it left
linked : (name flight sobt mttt exit exot stand : List ℕ) (ws plan v0 v1 v2 v3 v4 v5 left : Words)
    → ws ≡ flight ∷ v0 → v0 ≡ plan ++ v1 → v1 ≡ sobt ∷ v2 → v2 ≡ mttt ∷ v3 → v3 ≡ exit ∷ v4
    → v4 ≡ exot ∷ v5 → v5 ≡ stand ∷ left
    → name ∷ ws ≡ name ∷ flight ∷ (plan ++ (sobt ∷ mttt ∷ exit ∷ exot ∷ stand ∷ left))
linked name flight sobt mttt exit exot stand ws plan v0 v1 v2 v3 v4 v5 left a b c d e f g = cc

schedule_at-back : (ws : Words) (a : StatedCommand) (left : Words) → schedule_at ws ≡ Some (a, left)
    → ReadsAsked (codes "schedule" ∷ ws) a left
unfolding schedule_at
schedule_at-back ws a left h =
    let flight = bind_some (number_at 1 most_word ws) _ (a, left) h in
    let plan = bind_some (plan_at flight.0.1) _ (a, left) flight.2 in
    let sobt = bind_some (number_at 1 most_minute plan.0.1) _ (a, left) plan.2 in
    let mttt = bind_some (number_at 0 MINUTES_OF_DAY sobt.0.1) _ (a, left) sobt.2 in
    let exit = bind_some (number_at 0 255 mttt.0.1) _ (a, left) mttt.2 in
    let exot = bind_some (number_at 0 MINUTES_OF_DAY exit.0.1) _ (a, left) exit.2 in
    let stand = bind_some (number_at 0 65535 exot.0.1) _ (a, left) exot.2 in
    let f = number_at-back 1 most_word ws _ _ (omega arith) flight.1 in
    let p = plan_at-back flight.0.1 plan.0.0 plan.0.1 plan.1 in
    let s = number_at-back 1 most_minute plan.0.1 _ _ (omega arith) sobt.1 in
    let t = number_at-back 0 MINUTES_OF_DAY sobt.0.1 _ _ (omega arith) mttt.1 in
    let i = number_at-back 0 255 mttt.0.1 _ _ (omega arith) exit.1 in
    let o = number_at-back 0 MINUTES_OF_DAY exit.0.1 _ _ (omega arith) exot.1 in
    let n = number_at-back 0 65535 exot.0.1 _ _ (omega arith) stand.1 in
    given (ReadsAsked (codes "schedule" ∷ ws)) (Plain (Schedule (record {
      flight = flight.0.0;
      plan = plan.0.0;
      sobt = sobt.0.0;
      mttt = mttt.0.0;
      exit = exit.0.0;
      exot = exot.0.0;
      stand = stand.0.0;
    }))) a stand.0.1 left stand.2 (record {
      words = linked (codes "schedule") (decimal flight.0.0) (decimal sobt.0.0) (decimal mttt.0.0)
          (decimal exit.0.0) (decimal exot.0.0) (decimal stand.0.0) ws (plan_words plan.0.0) flight.0.1
          plan.0.1 sobt.0.1 mttt.0.1 exit.0.1 exot.0.1 stand.0.1 f.word p.words s.word t.word i.word
          o.word n.word;
      is = (
        refl,
        record {
          kept = record {
            flight_given = f.least;
            sobt_given = s.least;
            mttt_in_range = t.most;
            exot_in_range = o.most;
          };
          flight = omega (arith, f.most);
          plan = p.is;
          sobt = omega (arith, s.most);
          exit = omega (arith, i.most);
          stand = omega (arith, n.most);
        },
      );
    })

least_is : (a : Milestone) (time : ℕ) → has_its_time a time ≡ true → least_time a ≤ time
least_is m.TwoHoursBeforeEobt time h = omega arith
least_is m.TobtUpdate time h = omega arith
least_is _ zero h = absurd (cc)
least_is _ (suc n) h = omega arith

least_back : (a : Milestone) (time : ℕ) → least_time a ≤ time → has_its_time a time ≡ true
least_back m.TwoHoursBeforeEobt time h = refl
least_back m.TobtUpdate time h = refl
least_back _ zero h = absurd (omega arith)
least_back _ (suc n) h = grind (arith, nat_tests)

report_at-is : (r : ReportFacts) → IsReportLine r
    → asked_at (report_words r) ≡ Some (Plain (Report r), [])
unfolding asked_at command_named report_at
report_at-is r is =
    let k = is.kept in
    bind_is _ _ _ (number_at-is 1 most_word r.flight _ k.flight_given (omega (arith, is.flight))
    is.flight)
    ∙ bind_is _ _ _ (milestone_at-is r.milestone _)
    ∙ bind_is _ _ _ (number_at-is (least_time r.milestone) most_minute r.time _
    (least_is r.milestone r.time k.timed) (omega (arith, is.time)) (omega (arith, is.time)))
    ∙ bind_is _ _ _ (ap (plan_for r.milestone) (sym (append-nil (plan_words_of r.plan)))
    ∙ plan_for-is r.milestone r.plan [] k.plan_with_first is.plan)

report_at-back : (ws : Words) (a : StatedCommand) (left : Words) → report_at ws ≡ Some (a, left)
    → ReadsAsked (codes "report" ∷ ws) a left
unfolding report_at
report_at-back ws a left h =
    let flight = bind_some (number_at 1 most_word ws) _ (a, left) h in
    let ms = bind_some (milestone_at flight.0.1) _ (a, left) flight.2 in
    let time = bind_some (number_at (least_time ms.0.0) most_minute ms.0.1) _ (a, left) ms.2 in
    let plan = bind_some (plan_for ms.0.0 time.0.1) _ (a, left) time.2 in
    let f = number_at-back 1 most_word ws _ _ (omega arith) flight.1 in
    let t = number_at-back (least_time ms.0.0) most_minute ms.0.1 _ _ (omega arith) time.1 in
    let p = plan_for-back ms.0.0 time.0.1 plan.0.0 plan.0.1 plan.1 in
    given (ReadsAsked (codes "report" ∷ ws)) _ a _ left plan.2 (record {
      words = cc (f.word, milestone_at-back flight.0.1 ms.0.0 ms.0.1 ms.1, t.word, p.words);
      is = (
        refl,
        record {
          kept = record {
            flight_given = f.least;
            plan_with_first = p.has;
            timed = least_back ms.0.0 time.0.0 t.least;
          };
          flight = omega (arith, f.most);
          time = omega (arith, t.most);
          plan = p.is;
        },
      );
    })

deice_at-is : (d : DeiceLine) → (1 ≤ d.flight) × IsWord d.flight × (d.time < 2 ^ 32)
    → asked_at (deice_words d) ≡ Some (Plain (Deice d), [])
unfolding asked_at command_named deice_at
deice_at-is d is =
    bind_is _ _ _ (number_at-is 1 most_word d.flight _ is.0 (omega (arith, is.1)) is.1)
    ∙ bind_is _ _ _ (deicing_at-is d.which _)
    ∙ bind_is _ _ _ (number_at-is 0 most_minute d.time [] (omega arith) (omega (arith, is.2))
    (omega (arith, is.2)))

deice_at-back : (ws : Words) (a : StatedCommand) (left : Words) → deice_at ws ≡ Some (a, left)
    → ReadsAsked (codes "deice" ∷ ws) a left
unfolding deice_at
deice_at-back ws a left h =
    let flight = bind_some (number_at 1 most_word ws) _ (a, left) h in
    let which = bind_some (deicing_at flight.0.1) _ (a, left) flight.2 in
    let time = bind_some (number_at 0 most_minute which.0.1) _ (a, left) which.2 in
    let f = number_at-back 1 most_word ws _ _ (omega arith) flight.1 in
    let t = number_at-back 0 most_minute which.0.1 _ _ (omega arith) time.1 in
    given (ReadsAsked (codes "deice" ∷ ws)) _ a _ left time.2 (record {
      words = cc (f.word, deicing_at-back flight.0.1 which.0.0 which.0.1 which.1, t.word);
      is = (refl, (f.least, omega (arith, f.most), omega (arith, t.most)));
    })

load_at-is : (l : LoadRequest) → AllByRecursion IsByte l.program
    → asked_at (load_words l.milestone l.kind l.program l.record_length) ≡ Some (Load l, [])
unfolding asked_at command_named load_at
load_at-is l is =
    bind_is _ _ _ (milestone_at-is l.milestone _)
    ∙ bind_is _ _ _ (kind_at-is l.kind _)
    ∙ bind_is _ _ _ (bytes_at-is l.program _ is)
    ∙ bind_is _ _ _ (length_at-is l.record_length)

load_at-back : (ws : Words) (a : StatedCommand) (left : Words) → load_at ws ≡ Some (a, left)
    → ReadsAsked (codes "load" ∷ ws) a left
unfolding load_at
load_at-back ws a left h =
    let ms = bind_some (milestone_at ws) _ (a, left) h in
    let kind = bind_some (kind_at ms.0.1) _ (a, left) ms.2 in
    let program = bind_some (bytes_at kind.0.1) _ (a, left) kind.2 in
    let long = bind_some (length_at program.0.1) _ (a, left) program.2 in
    let b = bytes_at-back kind.0.1 program.0.0 program.0.1 program.1 in
    given (ReadsAsked (codes "load" ∷ ws)) _ a _ left long.2 (record {
      words = cc (
        milestone_at-back ws ms.0.0 ms.0.1 ms.1,
        kind_at-back ms.0.1 kind.0.0 kind.0.1 kind.1,
        b.0,
        length_at-back program.0.1 long.0.0 long.0.1 long.1,
      );
      is = b.1;
    })

unload_at-back : (ws : Words) (a : StatedCommand) (left : Words) → unload_at ws ≡ Some (a, left)
    → ReadsAsked (codes "unload" ∷ ws) a left
unfolding unload_at
unload_at-back ws a left h =
    let ms = bind_some (milestone_at ws) _ (a, left) h in
    let kind = bind_some (kind_at ms.0.1) _ (a, left) ms.2 in
    given (ReadsAsked (codes "unload" ∷ ws)) _ a _ left kind.2 (record {
      words = cc (
        milestone_at-back ws ms.0.0 ms.0.1 ms.1,
        kind_at-back ms.0.1 kind.0.0 kind.0.1 kind.1,
      );
      is = (refl, tt);
    })

show_at-back : (ws : Words) (a : StatedCommand) (left : Words) → show_at ws ≡ Some (a, left)
    → ReadsAsked (codes "show" ∷ ws) a left
unfolding show_at
show_at-back ws a left h =
    let flight = bind_some (number_at 1 most_word ws) _ (a, left) h in
    let f = number_at-back 1 most_word ws _ _ (omega arith) flight.1 in
    given (ReadsAsked (codes "show" ∷ ws)) _ a _ left flight.2 (record {
      words = ap (λ (l : Words). codes "show" ∷ l) f.word;
      is = (refl, (f.least, omega (arith, f.most)));
    })

pub asked_at-is : (a : StatedCommand) → IsAsked a → asked_at (asked_words a) ≡ Some (a, [])
unfolding asked_at command_named unload_at show_at
asked_at-is (Plain (Schedule s)) is = schedule_at-is s is.1
asked_at-is (Plain (Report r)) is = report_at-is r is.1
asked_at-is (Plain (Deice d)) is = deice_at-is d is.1
asked_at-is (Plain (commands.Load l)) is = absurd (cc is.0)
asked_at-is (Plain (commands.Unload u)) is =
    bind_is _ _ _ (milestone_at-is u.milestone _) ∙ bind_is _ _ _ (kind_at-is u.kind [])
asked_at-is (Plain commands.Tick) is = refl
asked_at-is (Plain commands.Migrate) is = refl
asked_at-is (Plain (commands.Show f)) is =
    bind_is _ _ _ (number_at-is 1 most_word f [] is.1.0 (omega (arith, is.1.1)) is.1.1)
asked_at-is (Plain commands.Alerts) is = refl
asked_at-is (Load l) is = load_at-is l is

-- the words begin with this name, and what follows is read so
begins : (read : Words → Option (StatedCommand × Words)) (name : List ℕ)
    → ((ws : Words) (a : StatedCommand) (left : Words) → read ws ≡ Some (a, left)
    → ReadsAsked (name ∷ ws) a left)
    → (w : List ℕ) (ws : Words) (a : StatedCommand) (left : Words) → bytes_eq w name ≡ true
    → read ws ≡ Some (a, left) → ReadsAsked (w ∷ ws) a left
begins read name back w ws a left e h =
    let same = (bytes_eq-Decides w name).0 e in
    let r = back ws a left h in
    record { words = ap (λ x. x ∷ ws) same ∙ r.words; is = r.is }

alone_named : (c : Command) → (is_load c ≡ false) × IsCommandLine c
    → (ws : Words) (a : StatedCommand) (left : Words)
    → ◌≡◌ {A = Option (StatedCommand × Words)} (Some (Plain c, ws)) (Some (a, left))
    → (name : List ℕ) → command_words c ≡ name ∷ [] → ReadsAsked (name ∷ ws) a left
alone_named c is ws a left h name e =
    given (ReadsAsked (name ∷ ws)) (Plain c) a ws left h
    (record { words = ap (λ (l : Words). l ++ ws) (sym e); is = is })

pub command_named-back : (w : List ℕ) (ws : Words) (a : StatedCommand) (left : Words)
    → command_named w ws ≡ Some (a, left) → ReadsAsked (w ∷ ws) a left
unfolding command_named
command_named-back w ws a left h =
    elim (if_some (bytes_eq w (codes "schedule")) _ _ (a, left) h) [
      | inl p ↦ begins schedule_at (codes "schedule") schedule_at-back w ws a left p.0 p.1
      | inr p ↦ elim (if_some (bytes_eq w (codes "report")) _ _ (a, left) p.1) [
        | inl p ↦ begins report_at (codes "report") report_at-back w ws a left p.0 p.1
        | inr p ↦ elim (if_some (bytes_eq w (codes "load")) _ _ (a, left) p.1) [
          | inl p ↦ begins load_at (codes "load") load_at-back w ws a left p.0 p.1
          | inr p ↦ elim (if_some (bytes_eq w (codes "unload")) _ _ (a, left) p.1) [
            | inl p ↦ begins unload_at (codes "unload") unload_at-back w ws a left p.0 p.1
            | inr p ↦ elim (if_some (bytes_eq w (codes "tick")) _ _ (a, left) p.1) [
              | inl p ↦ begins (λ v. Some (Plain commands.Tick, v)) (codes "tick")
                  (λ v b l e. alone_named commands.Tick (refl, tt) v b l e _ refl) w ws a left p.0
                  p.1
              | inr p ↦ elim (if_some (bytes_eq w (codes "show")) _ _ (a, left) p.1) [
                | inl p ↦ begins show_at (codes "show") show_at-back w ws a left p.0 p.1
                | inr p ↦ elim (if_some (bytes_eq w (codes "alerts")) _ _ (a, left) p.1) [
                  | inl p ↦ begins (λ v. Some (Plain commands.Alerts, v)) (codes "alerts")
                      (λ v b l e. alone_named commands.Alerts (refl, tt) v b l e _ refl) w ws a left
                      p.0 p.1
                  | inr p ↦ elim (if_some (bytes_eq w (codes "migrate")) _ _ (a, left) p.1) [
                    | inl p ↦ begins (λ v. Some (Plain commands.Migrate, v)) (codes "migrate")
                        (λ v b l e. alone_named commands.Migrate (refl, tt) v b l e _ refl) w ws a
                        left p.0 p.1
                    | inr p ↦ elim (if_some (bytes_eq w (codes "deice")) _ _ (a, left) p.1) [
                      | inl p ↦ begins deice_at (codes "deice") deice_at-back w ws a left p.0 p.1
                      | inr p ↦ absurd (cc p.1)
                    ]
                  ]
                ]
              ]
            ]
          ]
        ]
      ]
    ]

pub asked_at-back : (ws : Words) (a : StatedCommand) (left : Words) → asked_at ws ≡ Some (a, left)
    → ReadsAsked ws a left
unfolding asked_at
asked_at-back ws a left h =
    let w = bind_some (word_at ws) _ (a, left) h in
    let r = command_named-back w.0.0 w.0.1 a left w.2 in
    record { words = word_at-back ws w.0.0 w.0.1 w.1 ∙ r.words; is = r.is }

-- ---- answers

answers_from-is : (given : List ℕ) (answers : List ℕ) (ws : Words) → AllByRecursion IsWord answers
    → answers_from given (length answers) (map decimal answers ++ ws) ≡ Some (given ++ answers, ws)
answers_from-is given [] ws is = ap (λ l. Some (l, ws)) (sym (append-nil given))
answers_from-is given (a ∷ more) ws is =
    bind_is _ _ _ (number_at-is 0 most_word a (map decimal more ++ ws) (omega arith)
    (omega (arith, is.0)) is.0)
    ∙ answers_from-is (given ++ a ∷ []) more ws is.1
    ∙ ap (λ l. Some (l, ws)) (append_assoc given (a ∷ []) more)

-- an answer is read, and then one less
pub answers_more : (given : List ℕ) (k : ℕ) (ws : Words) (a : ℕ) (left : Words) → 0 < k
    → number_at 0 most_word ws ≡ Some (a, left)
    → answers_from (given ++ a ∷ []) (k - 1) left ≡ answers_from given k ws
answers_more given zero ws a left h e = absurd (omega arith)
answers_more given (suc k) ws a left h e =
    let less : suc k - 1 ≡ k = omega arith in
    ap (λ n. answers_from (given ++ a ∷ []) n left) less ∙ sym (bind_is _ _ (a, left) e)

pub record ReadsAnswers (given : List ℕ) (k : ℕ) (ws : Words) (all : List ℕ) (left : Words) : Type 0
  where
    pub answers : List ℕ
    pub all_are : all ≡ given ++ answers
    pub count : length answers ≡ k
    pub words : ws ≡ map decimal answers ++ left
    pub are : AllByRecursion IsWord answers

answers_from-back : (given : List ℕ) (k : ℕ) (ws : Words) (all : List ℕ) (left : Words)
    → answers_from given k ws ≡ Some (all, left) → ReadsAnswers given k ws all left
answers_from-back given zero ws all left h =
    let same = some_pair_parts given all ws left h in
    record {
      answers = [];
      all_are = sym same.0 ∙ sym (append-nil given);
      count = refl;
      words = same.1;
      are = tt;
    }
answers_from-back given (suc k) ws all left h =
    let a = bind_some (number_at 0 most_word ws) _ (all, left) h in
    let w = number_at-back 0 most_word ws a.0.0 a.0.1 (omega arith) a.1 in
    let r = answers_from-back (given ++ a.0.0 ∷ []) k a.0.1 all left a.2 in
    record {
      answers = a.0.0 ∷ r.answers;
      all_are = r.all_are ∙ append_assoc given (a.0.0 ∷ []) r.answers;
      count = ap suc r.count;
      words = w.word ∙ ap (λ (l : Words). decimal a.0.0 ∷ l) r.words;
      are = (omega (arith, w.most), r.are);
    }

pub answers_at-is : (answers : List ℕ) (ws : Words) → IsWord (length answers)
    → AllByRecursion IsWord answers
    → answers_at (answer_words answers ++ ws) ≡ Some (answers, ws)
unfolding answers_at
answers_at-is answers ws few are =
    bind_is _ _ _ (number_at-is 0 most_word (length answers) (map decimal answers ++ ws)
    (omega arith) (omega (arith, few)) few)
    ∙ answers_from-is [] answers ws are

record ReadsCounted (ws : Words) (answers : List ℕ) (left : Words) : Type 0 where
  words : ws ≡ answer_words answers ++ left
  few : IsWord (length answers)
  are : AllByRecursion IsWord answers

answers_at-back : (ws : Words) (answers : List ℕ) (left : Words)
    → answers_at ws ≡ Some (answers, left) → ReadsCounted ws answers left
unfolding answers_at
answers_at-back ws answers left h =
    let n = bind_some (number_at 0 most_word ws) _ (answers, left) h in
    let w = number_at-back 0 most_word ws n.0.0 n.0.1 (omega arith) n.1 in
    let r = answers_from-back [] n.0.0 n.0.1 answers left n.2 in
    let here : ReadsCounted ws r.answers left = record {
      words = w.word ∙ ap (λ k. decimal k ∷ n.0.1) (sym r.count)
          ∙ ap (λ (l : Words). decimal (length r.answers) ∷ l) r.words;
      few = omega (arith, w.most, r.count);
      are = r.are;
    } in
    subst (λ l. ReadsCounted ws l left) (sym r.all_are) here

-- ---- lines

pub stated_at-is : (s : Stated) → IsStated s → stated_at (line_words s) ≡ Some (s, [])
unfolding stated_at
stated_at-is s is =
    let w = is.where_and_when in
    bind_is _ _ _ (number_at-is 0 most_word s.number _ (omega arith) (omega (arith, is.number))
    is.number)
    ∙ bind_is _ _ _ (number_at-is 1 64 s.session _ w.session_given w.few_sessions
    (omega (arith, w.few_sessions)))
    ∙ bind_is _ _ _ (number_at-is 1 most_minute s.moment _ w.minute_given
    (omega (arith, w.few_minutes)) (omega (arith, w.few_minutes)))
    ∙ bind_is _ _ _ (role_at-is s.role _)
    ∙ bind_is _ _ _ (number_at-is 0 most_word s.outcome _ (omega arith) (omega (arith, is.outcome))
    is.outcome)
    ∙ bind_is _ _ _ (answers_at-is s.answers (asked_words s.asked) is.few_answers is.answers)
    ∙ bind_is _ _ _ (asked_at-is s.asked is.asked)

pub record ReadsLine (ws : Words) (s : Stated) (left : Words) : Type 0 where
  pub words : ws ≡ decimal s.number ∷ decimal s.session ∷ decimal s.moment ∷ role_name s.role
      ∷ decimal s.outcome ∷ (answer_words s.answers ++ (asked_words s.asked ++ left))
  pub is : IsStated s

pub stated_at-back : (ws : Words) (s : Stated) (left : Words) → stated_at ws ≡ Some (s, left)
    → ReadsLine ws s left
unfolding stated_at
stated_at-back ws s left h =
    let number = bind_some (number_at 0 most_word ws) _ (s, left) h in
    let session = bind_some (number_at 1 64 number.0.1) _ (s, left) number.2 in
    let moment = bind_some (number_at 1 most_minute session.0.1) _ (s, left) session.2 in
    let role = bind_some (role_at moment.0.1) _ (s, left) moment.2 in
    let outcome = bind_some (number_at 0 most_word role.0.1) _ (s, left) role.2 in
    let answers = bind_some (answers_at outcome.0.1) _ (s, left) outcome.2 in
    let asked = bind_some (asked_at answers.0.1) _ (s, left) answers.2 in
    let n = number_at-back 0 most_word ws _ _ (omega arith) number.1 in
    let e = number_at-back 1 64 number.0.1 _ _ (omega arith) session.1 in
    let t = number_at-back 1 most_minute session.0.1 _ _ (omega arith) moment.1 in
    let o = number_at-back 0 most_word role.0.1 _ _ (omega arith) outcome.1 in
    let c = answers_at-back outcome.0.1 answers.0.0 answers.0.1 answers.1 in
    let a = asked_at-back answers.0.1 asked.0.0 asked.0.1 asked.1 in
    given (ReadsLine ws) _ s _ left asked.2 (record {
      words = n.word ∙ ap (λ (l : Words). decimal number.0.0 ∷ l) (e.word
          ∙ ap (λ (l : Words). decimal session.0.0 ∷ l) (t.word
          ∙ ap (λ (l : Words). decimal moment.0.0 ∷ l)
          (role_at-back moment.0.1 role.0.0 role.0.1 role.1
          ∙ ap (λ (l : Words). role_name role.0.0 ∷ l) (o.word
          ∙ ap (λ (l : Words). decimal outcome.0.0 ∷ l) (c.words
          ∙ ap (λ (l : Words). answer_words answers.0.0 ++ l) a.words)))));
      is = record {
        number = omega (arith, n.most);
        where_and_when = record {
          session_given = e.least;
          few_sessions = e.most;
          minute_given = t.least;
          few_minutes = omega (arith, t.most);
        };
        outcome = omega (arith, o.most);
        few_answers = c.few;
        answers = c.are;
        asked = a.is;
      };
    })
