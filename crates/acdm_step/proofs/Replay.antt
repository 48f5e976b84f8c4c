-- A step on the replay of a legal history is the replay of the longer history.
use Rattle.std.proofs.Common.{◌≡◌, ◌≢◌, ℕ, eq-eqb, ◌+◌, Bool, true, false, cond, not, ◌&&◌, ◌||◌}
use Rattle.std.proofs.Common.{◌==◌, nat_lt, List, [], ◌∷◌, ◌++◌, map, length, get_or, set, Option}
use Rattle.std.proofs.Common.{Some, None, refl, sym, ap, subst, ◌∙◌, arith, eqb-true}
use Rattle.std.proofs.Common.{ne_eqb, option_map}
use Rattle.std.proofs.lemmas.List.{length-map, map_push, get_or_past}
use Rattle.std.specs.List.{position_or_len}
use Rattle.acdm_record.specs.Fields.{Fields, migrated}
use Rattle.acdm_milestones.specs.declared.role.Role.{Role}
use Rattle.acdm_milestones.specs.declared.role.Action.TheVariants as actions
use Rattle.acdm_milestones.specs.declared.refusal.Refusal.{Refusal}
use Rattle.acdm_milestones.specs.declared.refusal.Refusal.TheVariants.{NotOwner, UnknownFlight}
use Rattle.acdm_milestones.specs.Tables.{number, owns}
use Rattle.bpf_helpers.specs.Promise.{Promise}
use Rattle.bpf_regstate.specs.declared.length.Length.{Length}
use Rattle.bpf_verifier.specs.Verdict.{Verified}
use Rattle.bpf_helpers.specs.Oracles.{OracleView}
use Rattle.acdm_milestones.specs.declared.milestone.Milestone.{Milestone}
use Rattle.acdm_slots.specs.declared.kind.Kind.{Kind}
use Rattle.acdm_slots.specs.declared.kind.Kind.TheVariants as kinds
use Rattle.acdm_slots.specs.Loaded.{Loaded, place}
use Rattle.acdm_slots.specs.Loaded as loaded
use Rattle.acdm_slots.proofs.PlaceLemmas.{given}
use Rattle.acdm_step.specs.declared.command.Command.{Command}
use Rattle.acdm_step.specs.declared.command.Command.TheVariants.{Load, Unload, Tick, Migrate, Show}
use Rattle.acdm_step.specs.declared.command.Command.TheVariants as commands
use Rattle.acdm_step.specs.declared.command.Command.TheVariants.{Schedule, Report, Deice}
use Rattle.acdm_step.specs.declared.outcome.Outcome.TheVariants as outcomes
use Rattle.acdm_step.specs.declared.entry.Verdict.{Verdict}
use Rattle.acdm_step.specs.declared.entry.Verdict.TheVariants.{Refused}
use Rattle.acdm_step.specs.declared.entry.Entry.{Entry}
use Rattle.acdm_step.specs.Commands.{History, flight_of, told_milestone, changes_flight, is_tick}
use Rattle.acdm_step.specs.Commands.{is_migrate, migrates, takes_programs}
use Rattle.acdm_step.specs.Commands.{is_of, ticks, is_accepted, creates, created, is_alerts}
use Rattle.acdm_step.specs.InSlots.{slot_change, changed_or, program_in, programs_of, size_of}
use Rattle.acdm_step.specs.InSlots.{with_slots, slots_of, record_length_after, may_ask, length_by}
use Rattle.acdm_step.specs.InSlots.{judged_again}
use Rattle.bpf_regstate.specs.declared.length.Length.TheVariants.{L128, L160}
use Rattle.acdm_slots.specs.Migration.{kept_program, unloaded}
use Rattle.acdm_step.specs.Summaries.{Summary, with_command, with_tick, summary}
use Rattle.acdm_step.specs.Summaries.{effect_on}
use Rattle.acdm_step.specs.Summaries.{record_from, record_of, with_flight, flights, exists}
use Rattle.acdm_step.specs.Summaries.{run_record_of}
use Rattle.acdm_step.specs.Verdicts.{obstacle, verdict_for, verdict_of, answer, outcome_with}
use Rattle.acdm_step.specs.Verdicts.{outcome_of, unload_obstacle}
use Rattle.acdm_step.specs.History.{IsAnswered, IsLegal, replay, after, needs_memory}
use Rattle.acdm_step.specs.Board.{begun, record_after, touched, place_of, is_there, record_on, put}
use Rattle.acdm_step.specs.Board.{assigned_to, programs_on, obstacle_on, board_verdict}
use Rattle.acdm_step.specs.Board.{board_loads, board_answer, board_outcome, board_changed}
use Rattle.acdm_step.specs.Board.{board_after}
use Rattle.acdm_step.specs.Ran.{Ran}
use Rattle.acdm_step.specs.Running.{AsksIn}
use Rattle.acdm_step.proofs.Steps.{change_no_tick, change_no_migrate}
use Rattle.acdm_step.proofs.Numbers.{none_deiced, true_false}
use Rattle.acdm_step.proofs.Records.{assigned-reported, record_same, record_changed, record_ticked}
use Rattle.acdm_step.proofs.Records.{beside, record_migrated}
use Rattle.acdm_step.proofs.Records.{touched-there}
use Rattle.acdm_step.proofs.Flights.{is_it, has, and_false, found, inside, outside, absent, updated}
use Rattle.acdm_step.proofs.Flights.{flights_distinct, grows, has-with_flight}

-- ---- creation

first_owned : (a b : Bool) (rest : Verdict)
    → is_accepted (cond (not a) (Refused NotOwner)
    (cond (not false && not b) (Refused UnknownFlight) rest)) ≡ true → b ≡ true
first_owned true true rest h = refl
first_owned true false rest h = h
first_owned false true rest h = refl
first_owned false false rest h = h

-- a command that is accepted where its flight is not there creates it
admitted_creates : (c : Command) (count : ℕ) (r : Fields) (against : Option Refusal) (role : Role)
    → changes_flight c ≡ true → is_accepted (verdict_for false count r against role c) ≡ true
    → creates c ≡ true
admitted_creates (Schedule s) count r against role k h = refl
admitted_creates (Report p) count r against role k h =
    first_owned (owns role (actions.Report p.milestone)) (number p.milestone == 1) _ h
admitted_creates (Deice d) count r against role k h =
    absurd (true_false (sym h ∙ none_deiced (owns role actions.Deice) against))
admitted_creates _ count r against role k h = absurd (cc)

-- what an accepted entry creates
creates_or_not : (fs : List ℕ) (b : Bool) (f : ℕ) → has f fs ≡ true
    → with_flight fs (cond b (Some f) None) ≡ fs
creates_or_not fs true f h = ap (λ b. cond b fs (fs ++ f ∷ [])) h
creates_or_not fs false f h = refl

-- ---- a flight that is not there has nothing set

tick_no_change : (c : Command) → is_tick c ≡ true → changes_flight c ≡ false
tick_no_change Tick h = refl
tick_no_change _ h = absurd (cc)

no_and : (a b : Bool) → a ≡ false → (a && b) ≡ false
no_and true b h = absurd (cc)
no_and false b h = refl

-- three tests that can't hold together
not_all : (a b c : Bool) → (a ≡ true → b ≡ true → c ≡ true → ⊥) → (a && (b && c)) ≡ false
not_all true true true h = absurd (h refl refl refl)
not_all true true false h = refl
not_all true false c h = refl
not_all false b c h = refl

-- an entry that is accepted is so by the tests
pub is_right : (sigs : List (ℕ × Promise)) (J : History) (role : Role) (moment : ℕ) (c : Command)
    (v : Verdict) (answers : List ℕ)
    → IsAnswered sigs J role moment c v answers → is_accepted v ≡ true
    → is_accepted (verdict_of sigs J role c) ≡ true
is_right sigs J role moment c v answers h d = sym (ap is_accepted h.verdict_is) ∙ d

module _ (sigs : List (ℕ × Promise)) (f : ℕ) (e : Entry) (J : History)
    (right : is_accepted e.verdict ≡ true
    → is_accepted (verdict_of sigs J e.role e.command) ≡ true)
    (gone : has f (with_flight (flights J) (created e)) ≡ false) where
  -- an accepted entry of a flight that is not there would have created it
  not_named : is_accepted e.verdict ≡ true → changes_flight e.command ≡ true
      → (flight_of e.command == f) ≡ true → ⊥
  not_named d k n =
      let same : flight_of e.command ≡ f = eqb-true (flight_of e.command) f n in
      let before : has f (flights J) ≡ false = grows f (flights J) (created e) gone in
      let there : exists J (flight_of e.command) ≡ false =
      subst (λ g. has g (flights J) ≡ false) (sym same) before in
      let done' : is_accepted (verdict_for false (length (flights J))
      (record_of J (flight_of e.command)) (obstacle sigs J e.command) e.role e.command) ≡ true =
      sym (ap (λ b. is_accepted (verdict_for b (length (flights J))
      (record_of J (flight_of e.command)) (obstacle sigs J e.command) e.role e.command)) there)
      ∙ right d in
      let makes = admitted_creates e.command (length (flights J))
      (record_of J (flight_of e.command)) (obstacle sigs J e.command) e.role k done' in
      let made : created e ≡ Some f =
      ap (λ b. cond (b && creates e.command) (Some (flight_of e.command)) None) d
      ∙ ap (λ b. cond b (Some (flight_of e.command)) None) makes ∙ ap Some same in
      let yes : has f (with_flight (flights J) (created e)) ≡ true =
      ap (λ o. has f (with_flight (flights J) o)) made ∙ has-with_flight f (flights J) in
      cc

  unset : is_of f e ≡ false
  unset = not_all (is_accepted e.verdict) (changes_flight e.command) (flight_of e.command == f)
      not_named

-- a flight that is not there was never touched
untouched : (sigs : List (ℕ × Promise)) (f : ℕ) (J : History) → IsLegal sigs J
    → exists J f ≡ false → (summary J f).touch ≡ None
untouched sigs f [] l h = refl
untouched sigs f (e ∷ J) l h =
    let before = untouched sigs f J l.0 (grows f (flights J) (created e) h) in
    ap (λ b. (cond b (with_command e.command e.moment
    (effect_on (programs_of J e.command) e f (summary J f)) (summary J f))
    (beside (ticks e) (migrates e) e.moment (summary J f))).touch)
    (unset sigs f e J (is_right sigs J e.role e.moment e.command e.verdict e.answers l.4) h)
    ∙ either (ticks e) (migrates e) (summary J f) before
  where
    either : (a b : Bool) (t : Summary) → t.touch ≡ None → (beside a b e.moment t).touch ≡ None
    either true b t n = ap (option_map (λ m. e.moment)) n
    either false true t n = n
    either false false t n = n

-- a tick leaves what was never touched
tick_untouched : (f moment : ℕ) (t : Summary) → t.touch ≡ None
    → record_from f (with_tick moment t) ≡ record_from f t
tick_untouched f moment t n = ap (λ o. record_from f (record t { touch = o }))
    (ap (option_map (λ m. moment)) n ∙ sym n)

-- ---- the length of the records

same_length_by : (c : Command) (l : Length) → is_migrate c ≡ false → length_by c l ≡ l
same_length_by Migrate l h = absurd (cc)
same_length_by _ l h = refl

grown_by : (c : Command) (l : Length) → is_migrate c ≡ true → length_by c l ≡ L160
grown_by Migrate l h = refl
grown_by _ l h = absurd (cc)

length_kept : (e : Entry) (J : History) → migrates e ≡ false
    → record_length_after (e ∷ J) ≡ record_length_after J
length_kept e J m = at (is_accepted e.verdict) m
  where
    at : (b : Bool) → (b && is_migrate e.command) ≡ false
        → cond b (length_by e.command (record_length_after J)) (record_length_after J)
        ≡ record_length_after J
    at true h = same_length_by e.command (record_length_after J) h
    at false h = refl

length_grown : (e : Entry) (J : History) → migrates e ≡ true → record_length_after (e ∷ J) ≡ L160
length_grown e J m = at (is_accepted e.verdict) m
  where
    at : (b : Bool) → (b && is_migrate e.command) ≡ true
        → cond b (length_by e.command (record_length_after J)) (record_length_after J) ≡ L160
    at true h = grown_by e.command (record_length_after J) h
    at false h = absurd (cc)

tick_no_migrate : (c : Command) → is_tick c ≡ true → is_migrate c ≡ false
tick_no_migrate Tick h = refl
tick_no_migrate _ h = absurd (cc)

no_migrate : (e : Entry) → ticks e ≡ true → migrates e ≡ false
no_migrate e h = at (is_accepted e.verdict) h
  where
    at : (b : Bool) → (b && is_tick e.command) ≡ true → (b && is_migrate e.command) ≡ false
    at true k = tick_no_migrate e.command k
    at false k = refl

begun_migrated : (l : Length) (f : ℕ) → migrated (begun l f) ≡ begun L160 f
begun_migrated L128 f = refl
begun_migrated L160 f = refl

nothing_set : (sigs : List (ℕ × Promise)) (f : ℕ) (J : History) → IsLegal sigs J
    → exists J f ≡ false → record_of J f ≡ begun (record_length_after J) f
nothing_set sigs f [] l h = refl
nothing_set sigs f (e ∷ J) l h =
    let gone = grows f (flights J) (created e) h in
    let before = nothing_set sigs f J l.0 gone in
    let other : is_of f e ≡ false = unset sigs f e J
    (is_right sigs J e.role e.moment e.command e.verdict e.answers l.4) h in
    elim (ticks e) as (λ t. ticks e ≡ t
    → record_of (e ∷ J) f ≡ begun (record_length_after (e ∷ J)) f) [
      | true ↦ λ t.
          ap (λ b. record_from f (cond b (with_command e.command e.moment
          (effect_on (programs_of J e.command) e f (summary J f)) (summary J f))
          (beside (ticks e) (migrates e) e.moment (summary J f)))) other
          ∙ ap (λ b. record_from f (beside b (migrates e) e.moment (summary J f))) t
          ∙ tick_untouched f e.moment (summary J f) (untouched sigs f J l.0 gone) ∙ before
          ∙ ap (λ n. begun n f) (sym (length_kept e J (no_migrate e t)))
      | false ↦ λ t.
          elim (migrates e) as (λ m. migrates e ≡ m
          → record_of (e ∷ J) f ≡ begun (record_length_after (e ∷ J)) f) [
            | true ↦ λ m. record_migrated e J f other t m ∙ ap migrated before
                ∙ begun_migrated (record_length_after J) f
                ∙ ap (λ n. begun n f) (sym (length_grown e J m))
            | false ↦ λ m. record_same e J f other t m ∙ before
                ∙ ap (λ n. begun n f) (sym (length_kept e J m))
          ] refl
    ] refl

-- ---- the programs in the slots

either_slot : (b : Bool) (after before : Option Verified)
    → cond b after before ≡ changed_or (cond b (Some after) None) before
either_slot true after before = refl
either_slot false after before = refl

-- the program that stands in a slot is that of the last load or unload
pub slot-replay : (sigs : List (ℕ × Promise)) (J : History) (m : Milestone) (k : Kind)
    → loaded.program_in (slots_of sigs J) m k ≡ program_in J m k
slot-replay sigs J m k = given sigs (record_length_after J) (program_in J) m k

-- a command changes what a slot is said to have
module _ (sigs : List (ℕ × Promise)) (record_length : Length) (f : Milestone → Kind
    → Option Verified) where
  put_there : (m n : Milestone) (kind other : Kind) (after : Option Verified)
      → cond (place m kind == place n other) after
      (loaded.program_in (loaded.loaded sigs record_length f) n other)
      ≡ changed_or (cond (place m kind == place n other) (Some after) None) (f n other)
  put_there m n kind other after =
      ap (λ before. cond (place m kind == place n other) after before) (given sigs record_length f n other)
      ∙ either_slot (place m kind == place n other) after (f n other)

  changed_slots : (c : Command) → with_slots c (loaded.loaded sigs record_length f)
      ≡ loaded.loaded sigs (length_by c record_length)
      (λ m k. changed_or (slot_change m k c) (judged_again c (f m k)))
  changed_slots (Load c) = ap (loaded.loaded sigs record_length)
      (λ i m k. put_there c.milestone m c.kind k (Some c.program) i)
  changed_slots (Unload c) = ap (loaded.loaded sigs record_length)
      (λ i m k. put_there c.milestone m c.kind k None i)
  changed_slots Migrate = ap (loaded.loaded sigs L160)
      (λ i m k. kept_program L160 (given sigs record_length f m k i))
  changed_slots _ = refl

-- an accepted entry changes the slots, and a refused one leaves them
abbrev slots_if : List (ℕ × Promise) → Entry → History → Bool → Loaded
slots_if sigs e J b =
    loaded.loaded sigs (cond b (length_by e.command (record_length_after J)) (record_length_after J))
    (λ m k. cond b (changed_or (slot_change m k e.command)
    (judged_again e.command (program_in J m k))) (program_in J m k))

pub accepted-slots : (sigs : List (ℕ × Promise)) (e : Entry) (J : History)
    → is_accepted e.verdict ≡ true
    → with_slots e.command (slots_of sigs J) ≡ slots_of sigs (e ∷ J)
accepted-slots sigs e J d =
    changed_slots sigs (record_length_after J) (program_in J) e.command
    ∙ sym (ap (slots_if sigs e J) d)

pub refused-slots : (sigs : List (ℕ × Promise)) (e : Entry) (J : History)
    → is_accepted e.verdict ≡ false → slots_of sigs (e ∷ J) ≡ slots_of sigs J
refused-slots sigs e J d = ap (slots_if sigs e J) d

pub with_slots-sigs : (c : Command) (l : Loaded) → (with_slots c l).sigs ≡ l.sigs
with_slots-sigs (Load c) l = refl
with_slots-sigs (Unload c) l = refl
with_slots-sigs _ l = refl

pub programs-replay : (sigs : List (ℕ × Promise)) (J : History) (c : Command)
    → programs_on (slots_of sigs J) c ≡ programs_of J c
programs-replay sigs J (Report r) =
    let tobt = slot-replay sigs J r.milestone kinds.Tobt in
    let alert = slot-replay sigs J r.milestone kinds.Alert in
    λ i. record { tobt = tobt i; alert = alert i }
programs-replay sigs J _ = refl

obstacle-replay : (sigs : List (ℕ × Promise)) (J : History) (c : Command)
    → obstacle_on (slots_of sigs J) c ≡ obstacle sigs J c
obstacle-replay sigs J (Load c) = refl
obstacle-replay sigs J (Unload c) = ap unload_obstacle (slot-replay sigs J c.milestone c.kind)
obstacle-replay sigs J _ = refl

pub room-replay : (sigs : List (ℕ × Promise)) (J : History) (m : Milestone) (k : Kind)
    → size_of (loaded.program_in (slots_of sigs J) m k) ≡ size_of (program_in J m k)
room-replay sigs J m k = ap size_of (slot-replay sigs J m k)

pub may_ask-replay : (sigs : List (ℕ × Promise)) (J : History) (m : Milestone) (k : Kind)
    → may_ask (loaded.program_in (slots_of sigs J) m k) ≡ may_ask (program_in J m k)
may_ask-replay sigs J m k = ap may_ask (slot-replay sigs J m k)

-- ---- the records of a history

abbrev pub records_of : History → List Fields
records_of J = map (record_of J) (flights J)

place-replay : (J : History) (f : ℕ) (gs : List ℕ)
    → place_of (map (record_of J) gs) f ≡ position_or_len (is_it f) gs
place-replay J f [] = refl
place-replay J f (g ∷ gs) = ap (λ n. cond (not (is_it f g)) (1 + n) 0) (place-replay J f gs)

pub there-replay : (J : History) (f : ℕ) → is_there (records_of J) f ≡ exists J f
there-replay J f =
    ap (λ n. nat_lt n (length (records_of J))) (place-replay J f (flights J))
    ∙ ap (λ n. nat_lt (position_or_len (is_it f) (flights J)) n)
    (length-map (flights J) (record_of J)) ∙ inside f (flights J)

pub record_on-replay : (sigs : List (ℕ × Promise)) (J : History) (f : ℕ) → IsLegal sigs J
    → record_on (replay sigs J) f ≡ record_of J f
record_on-replay sigs J f l =
    let first = begun (record_length_after J) f in
    ap (λ n. get_or (records_of J) n first) (place-replay J f (flights J))
    ∙ (elim (exists J f) as (λ b. exists J f ≡ b
    → get_or (records_of J) (position_or_len (is_it f) (flights J)) first ≡ record_of J f) [
      | true ↦ λ e. found f (record_of J) first (flights J) e
      | false ↦ λ e.
          let out = outside f (flights J) e in
          let len = length-map (flights J) (record_of J) in
          get_or_past (records_of J) (position_or_len (is_it f) (flights J)) first
          (omega arith) ∙ sym (nothing_set sigs f J l e)
    ] refl)

pub verdict-replay : (sigs : List (ℕ × Promise)) (J : History) (role : Role) (c : Command)
    → IsLegal sigs J → board_verdict (replay sigs J) role c ≡ verdict_of sigs J role c
unfolding board_verdict
verdict-replay sigs J role c l =
    ap (λ b. verdict_for b (length (records_of J)) (record_on (replay sigs J) (flight_of c))
    (obstacle_on (slots_of sigs J) c) role c) (there-replay J (flight_of c))
    ∙ ap (λ n. verdict_for (exists J (flight_of c)) n (record_on (replay sigs J) (flight_of c))
    (obstacle_on (slots_of sigs J) c) role c) (length-map (flights J) (record_of J))
    ∙ ap (λ r. verdict_for (exists J (flight_of c)) (length (flights J)) r
    (obstacle_on (slots_of sigs J) c) role c) (record_on-replay sigs J (flight_of c) l)
    ∙ ap (λ r. verdict_for (exists J (flight_of c)) (length (flights J)) (record_of J (flight_of c))
    r role c) (obstacle-replay sigs J c)

-- the record with what a command assigns, on the board and after the history
assigned-replay : (sigs : List (ℕ × Promise)) (J : History) (c : Command) → IsLegal sigs J
    → assigned_to (record_on (replay sigs J) (flight_of c)) c ≡ run_record_of J c
assigned-replay sigs J c l =
    ap (λ r. assigned_to r c) (record_on-replay sigs J (flight_of c) l)
    ∙ assigned-reported (flight_of c) (summary J (flight_of c)) c

-- programs that ran on the board ran after it
pub ran-replay : (sigs : List (ℕ × Promise)) (J : History) (c : Command) (moment : ℕ)
    (used : List ℕ) → IsLegal sigs J
    → Ran (programs_on (slots_of sigs J) c) (assigned_to (record_on (replay sigs J) (flight_of c)) c)
    moment (told_milestone c) used
    → Ran (programs_of J c) (run_record_of J c) moment (told_milestone c) used
ran-replay sigs J c moment used l h =
    subst (λ x. Ran (programs_of J c) x moment (told_milestone c) used) (assigned-replay sigs J c l)
    (subst (λ p. Ran p (assigned_to (record_on (replay sigs J) (flight_of c)) c) moment (told_milestone c)
    used) (programs-replay sigs J c) h)

-- and a program that is left without an answer on the board is so after it
pub asks-replay : (sigs : List (ℕ × Promise)) (J : History) (c : Command) (moment : ℕ)
    (from to : OracleView) → IsLegal sigs J
    → AsksIn (programs_on (slots_of sigs J) c)
    (assigned_to (record_on (replay sigs J) (flight_of c)) c) moment (told_milestone c) from to
    → AsksIn (programs_of J c) (run_record_of J c) moment (told_milestone c) from to
asks-replay sigs J c moment from to l h =
    subst (λ x. AsksIn (programs_of J c) x moment (told_milestone c) from to) (assigned-replay sigs J c l)
    (subst (λ p. AsksIn p (assigned_to (record_on (replay sigs J) (flight_of c)) c) moment (told_milestone c)
    from to) (programs-replay sigs J c) h)

-- ---- one entry more

module _ (sigs : List (ℕ × Promise)) (e : Entry) (J : History) (legal : IsLegal sigs J)
    (right : is_accepted e.verdict ≡ true
    → is_accepted (verdict_of sigs J e.role e.command) ≡ true) where
  same_map : (gs : List ℕ) → is_accepted e.verdict ≡ false
      → map (record_of (e ∷ J)) gs ≡ map (record_of J) gs
  same_map [] d = refl
  same_map (g ∷ gs) d =
      let here =
      record_same e J g (no_and (is_accepted e.verdict) (changes_flight e.command
      && flight_of e.command == g) d) (no_and (is_accepted e.verdict) (is_tick e.command) d)
      (no_and (is_accepted e.verdict) (is_migrate e.command) d) in
      let rest = same_map gs d in
      λ t. here t ∷ rest t

  refused-records : is_accepted e.verdict ≡ false → records_of (e ∷ J) ≡ records_of J
  refused-records d =
      let none : created e ≡ None = ap
      (λ b. cond (b && creates e.command) (Some (flight_of e.command)) None) d in
      let fs : flights (e ∷ J) ≡ flights J = ap (with_flight (flights J)) none in
      ap (map (record_of (e ∷ J))) fs ∙ same_map (flights J) d

  -- a tick touches each flight
  ticked_map : (gs : List ℕ) → ((g : ℕ) → has g gs ≡ true → exists J g ≡ true)
      → is_accepted e.verdict ≡ true → is_tick e.command ≡ true
      → map (record_of (e ∷ J)) gs ≡ map (touched e.moment) (map (record_of J) gs)
  ticked_map [] all d k = refl
  ticked_map (g ∷ gs) all d k =
      let tick : ticks e ≡ true = ap (λ b. b && is_tick e.command) d ∙ k in
      let other : is_of g e ≡ false =
      ap (λ b. is_accepted e.verdict && (b && flight_of e.command == g))
      (tick_no_change e.command k) ∙ and_false (is_accepted e.verdict) false refl in
      let first : has g (g ∷ gs) ≡ true = ap (λ b. b || has g gs) (eq-eqb g g refl) in
      let here = record_ticked e J g other tick (touched-there J g (all g first)) in
      let more = λ (h : ℕ) (e : has h gs ≡ true). all h (later (is_it h g) (has h gs) e) in
      let rest = ticked_map gs more d k in
      λ t. here t ∷ rest t
    where
      later : (a b : Bool) → b ≡ true → (a || b) ≡ true
      later true b h = refl
      later false b h = h

  creates_none : (c : Command) → changes_flight c ≡ false → creates c ≡ false
  creates_none (commands.Schedule k) h = absurd (cc)
  creates_none (commands.Report k) h = absurd (cc)
  creates_none (commands.Deice k) h = absurd (cc)
  creates_none _ h = refl

  -- what changes no flight creates none
  same_flights : changes_flight e.command ≡ false → flights (e ∷ J) ≡ flights J
  same_flights k =
      ap (λ b. with_flight (flights J)
      (cond (is_accepted e.verdict && b) (Some (flight_of e.command)) None))
      (creates_none e.command k)
      ∙ ap (λ b. with_flight (flights J) (cond b (Some (flight_of e.command)) None))
      (and_false (is_accepted e.verdict) false refl)

  tick-replay : is_accepted e.verdict ≡ true → is_tick e.command ≡ true
      → map (touched e.moment) (records_of J) ≡ records_of (e ∷ J)
  tick-replay d k =
      sym (ap (map (record_of (e ∷ J))) (same_flights (tick_no_change e.command k))
      ∙ ticked_map (flights J) (λ g h. h) d k)

  migrate_no_change : (c : Command) → is_migrate c ≡ true → changes_flight c ≡ false
  migrate_no_change Migrate h = refl
  migrate_no_change _ h = absurd (cc)

  -- a migrate brings each flight to layout 2
  migrated_map : (gs : List ℕ) → is_accepted e.verdict ≡ true → is_migrate e.command ≡ true
      → is_tick e.command ≡ false
      → map (record_of (e ∷ J)) gs ≡ map migrated (map (record_of J) gs)
  migrated_map [] d k t = refl
  migrated_map (g ∷ gs) d k t =
      let all : migrates e ≡ true = ap (λ b. b && is_migrate e.command) d ∙ k in
      let tick : ticks e ≡ false = and_false (is_accepted e.verdict) (is_tick e.command) t in
      let other : is_of g e ≡ false =
      ap (λ b. is_accepted e.verdict && (b && flight_of e.command == g))
      (migrate_no_change e.command k) ∙ and_false (is_accepted e.verdict) false refl in
      let here = record_migrated e J g other tick all in
      let rest = migrated_map gs d k t in
      λ i. here i ∷ rest i

  migrate-replay : is_accepted e.verdict ≡ true → is_migrate e.command ≡ true
      → is_tick e.command ≡ false → map migrated (records_of J) ≡ records_of (e ∷ J)
  migrate-replay d k t =
      sym (ap (map (record_of (e ∷ J))) (same_flights (migrate_no_change e.command k))
      ∙ migrated_map (flights J) d k t)

  -- a question leaves each record
  asked-replay : changes_flight e.command ≡ false → is_tick e.command ≡ false
      → is_migrate e.command ≡ false → records_of J ≡ records_of (e ∷ J)
  asked-replay k t m =
      let same : (g : ℕ) → record_of (e ∷ J) g ≡ record_of J g = λ g. record_same e J g
      (and_false (is_accepted e.verdict) (changes_flight e.command && flight_of e.command == g)
      (no_and (changes_flight e.command) (flight_of e.command == g) k))
      (and_false (is_accepted e.verdict) (is_tick e.command) t)
      (and_false (is_accepted e.verdict) (is_migrate e.command) m) in
      sym (ap (map (record_of (e ∷ J))) (same_flights k)
      ∙ all_same (record_of (e ∷ J)) (record_of J) same (flights J))
    where
      all_same : (p q : ℕ → Fields) → ((g : ℕ) → p g ≡ q g) → (gs : List ℕ) → map p gs ≡ map q gs
      all_same p q same [] = refl
      all_same p q same (g ∷ gs) = let here = same g in let rest = all_same p q same gs in
          λ t. here t ∷ rest t

  module _ (k : changes_flight e.command ≡ true) where
    others : (g : ℕ) → g ≢ flight_of e.command → record_of (e ∷ J) g ≡ record_of J g
    others g ne =
        record_same e J g
        (and_false (is_accepted e.verdict) (changes_flight e.command && flight_of e.command == g)
        (and_false (changes_flight e.command) (flight_of e.command == g)
        (ne_eqb (flight_of e.command) g (λ x. ne (sym x)))))
        (and_false (is_accepted e.verdict) (is_tick e.command) (change_no_tick e.command k))
        (and_false (is_accepted e.verdict) (is_migrate e.command) (change_no_migrate e.command k))

    kept : is_accepted e.verdict ≡ true → exists J (flight_of e.command) ≡ true
        → flights (e ∷ J) ≡ flights J
    kept d t =
        ap (λ b. with_flight (flights J)
        (cond (b && creates e.command) (Some (flight_of e.command)) None)) d
        ∙ creates_or_not (flights J) (creates e.command) (flight_of e.command) t

    added : is_accepted e.verdict ≡ true → exists J (flight_of e.command) ≡ false
        → flights (e ∷ J) ≡ flights J ++ flight_of e.command ∷ []
    added d t =
        let done : is_accepted (verdict_for false (length (flights J))
        (record_of J (flight_of e.command)) (obstacle sigs J e.command) e.role e.command)
        ≡ true =
        sym (ap (λ b. is_accepted (verdict_for b (length (flights J))
        (record_of J (flight_of e.command)) (obstacle sigs J e.command) e.role e.command)) t)
        ∙ right d in
        ap (λ b. with_flight (flights J)
        (cond (b && creates e.command) (Some (flight_of e.command)) None)) d
        ∙ ap (λ b. with_flight (flights J) (cond b (Some (flight_of e.command)) None))
        (admitted_creates e.command (length (flights J)) (record_of J (flight_of e.command))
        (obstacle sigs J e.command) e.role k done)
        ∙ ap (λ b. cond b (flights J) (flights J ++ flight_of e.command ∷ [])) t

    accepted-replay : is_accepted e.verdict ≡ true
        → put (records_of J) (flight_of e.command)
        (record_after (programs_on (slots_of sigs J) e.command)
        (record_on (replay sigs J) (flight_of e.command)) e.moment e.command e.answers)
        ≡ records_of (e ∷ J)
    accepted-replay d =
        let f : ℕ = flight_of e.command in
        let changed_now : record_after (programs_on (slots_of sigs J) e.command)
        (record_on (replay sigs J) f) e.moment e.command e.answers ≡ record_of (e ∷ J) f =
        ap (λ ps. record_after ps (record_on (replay sigs J) f) e.moment e.command e.answers)
        (programs-replay sigs J e.command)
        ∙ ap (λ r. record_after (programs_of J e.command) r e.moment e.command e.answers)
        (record_on-replay sigs J f legal) ∙ sym (record_changed e J d k) in
        ap (put (records_of J) f) changed_now ∙
        (elim (exists J f) as (λ b. exists J f ≡ b
        → put (records_of J) f (record_of (e ∷ J) f) ≡ records_of (e ∷ J)) [
          | true ↦ λ t.
              let there : is_there (records_of J) f ≡ true = there-replay J f ∙ t in
              let fs : flights (e ∷ J) ≡ flights J = kept d t in
              ap (λ b. cond b (set (records_of J) (place_of (records_of J) f) (record_of (e ∷ J) f))
              (records_of J ++ record_of (e ∷ J) f ∷ [])) there
              ∙ ap (λ n. set (records_of J) n (record_of (e ∷ J) f)) (place-replay J f (flights J))
              ∙ sym (updated f (record_of J) (record_of (e ∷ J)) others (flights J)
              (flights_distinct J) t)
              ∙ ap (map (record_of (e ∷ J))) (sym fs)
          | false ↦ λ t.
              let there : is_there (records_of J) f ≡ false = there-replay J f ∙ t in
              let fs : flights (e ∷ J) ≡ flights J ++ f ∷ [] = added d t in
              ap (λ b. cond b (set (records_of J) (place_of (records_of J) f) (record_of (e ∷ J) f))
              (records_of J ++ record_of (e ∷ J) f ∷ [])) there
              ∙ ap (λ b. b ++ record_of (e ∷ J) f ∷ [])
              (sym (absent f (record_of J) (record_of (e ∷ J)) others (flights J) t))
              ∙ sym (map_push (record_of (e ∷ J)) (flights J) f)
              ∙ ap (map (record_of (e ∷ J))) (sym fs)
        ] refl)

  changed-replay : is_accepted e.verdict ≡ true
      → board_changed (replay sigs J) e.moment e.command e.answers ≡ records_of (e ∷ J)
  changed-replay d =
      elim (is_tick e.command) as (λ b. is_tick e.command ≡ b
      → cond b (map (touched e.moment) (records_of J))
      (cond (is_migrate e.command) (map migrated (records_of J))
      (cond (changes_flight e.command) here (records_of J))) ≡ records_of (e ∷ J)) [
        | true ↦ λ k. tick-replay d k
        | false ↦ λ t.
            elim (is_migrate e.command) as (λ b. is_migrate e.command ≡ b
            → cond b (map migrated (records_of J))
            (cond (changes_flight e.command) here (records_of J)) ≡ records_of (e ∷ J)) [
              | true ↦ λ m. migrate-replay d m t
              | false ↦ λ m.
                  elim (changes_flight e.command) as (λ b. changes_flight e.command ≡ b
                  → cond b here (records_of J) ≡ records_of (e ∷ J)) [
                    | true ↦ λ k. accepted-replay k d
                    | false ↦ λ k. asked-replay k t m
                  ] refl
            ] refl
      ] refl
    where
      here : List Fields
      here = put (records_of J) (flight_of e.command)
          (record_after (programs_on (slots_of sigs J) e.command)
          (record_on (replay sigs J) (flight_of e.command)) e.moment e.command e.answers)

  -- an accepted entry changes the board, and a refused one leaves it
  accepted-board : is_accepted e.verdict ≡ true
      → record {
        records = board_changed (replay sigs J) e.moment e.command e.answers;
        slots = with_slots e.command (slots_of sigs J);
      } ≡ replay sigs (e ∷ J)
  accepted-board d =
      let records = changed-replay d in
      let slots = accepted-slots sigs e J d in
      λ i. record { records = records i; slots = slots i }

  refused-board : is_accepted e.verdict ≡ false → replay sigs (e ∷ J) ≡ replay sigs J
  refused-board d =
      let records = refused-records d in
      let slots = refused-slots sigs e J d in
      λ i. record { records = records i; slots = slots i }

module _ (sigs : List (ℕ × Promise)) (J : History) (session : ℕ) (role : Role) (moment : ℕ)
    (c : Command) (legal : IsLegal sigs J) where
  -- a refused command changes no record and no slot
  pub refused-replay : (v : Verdict) (answers : List ℕ) → is_accepted v ≡ false
      → replay sigs (after J session role moment c v answers) ≡ replay sigs J
  refused-replay v answers d =
      let e : Entry = record {
        number = length J;
        session = session;
        role = role;
        moment = moment;
        command = c;
        verdict = v;
        answers = answers;
      } in
      refused-board sigs e J legal (λ t. absurd (cc)) d

  -- a step on the board with the verdict of the tests
  pub step-replay : (answers : List ℕ)
      → board_after (replay sigs J) role moment c answers
      ≡ replay sigs (after J session role moment c (verdict_of sigs J role c) answers)
  unfolding board_after
  step-replay answers =
      let e : Entry = record {
        number = length J;
        session = session;
        role = role;
        moment = moment;
        command = c;
        verdict = verdict_of sigs J role c;
        answers = answers;
      } in
      ap (λ o. cond (is_accepted o) (record {
        records = board_changed (replay sigs J) moment c answers;
        slots = with_slots c (slots_of sigs J);
      }) (replay sigs J))
      (verdict-replay sigs J role c legal)
      ∙ (elim (is_accepted (verdict_of sigs J role c))
      as (λ b. is_accepted (verdict_of sigs J role c) ≡ b
      → cond b (record {
        records = board_changed (replay sigs J) moment c answers;
        slots = with_slots c (slots_of sigs J);
      }) (replay sigs J) ≡ replay sigs (e ∷ J)) [
        | true ↦ λ d. accepted-board sigs e J legal (λ t. d) d
        | false ↦ λ d. sym (refused-board sigs e J legal (λ t. absurd (cc)) d)
      ] refl)

-- what is answered on the board is answered after the history
pub answer-replay : (sigs : List (ℕ × Promise)) (J : History) (c : Command) → IsLegal sigs J
    → board_answer (replay sigs J) c ≡ answer J c
answer-replay sigs J (Show f) l = ap outcomes.Shown (record_on-replay sigs J f l)
answer-replay sigs J Migrate l = ap (λ p. outcomes.Migrated (unloaded L160 p))
    (λ i m k. slot-replay sigs J m k i)
answer-replay sigs J _ l = refl

pub outcome-replay : (sigs : List (ℕ × Promise)) (J : History) (role : Role) (c : Command)
    → IsLegal sigs J → board_outcome (replay sigs J) role c ≡ outcome_of sigs J role c
unfolding board_outcome
outcome-replay sigs J role c l =
    ap (λ v. outcome_with (board_answer (replay sigs J) c) v) (verdict-replay sigs J role c l)
    ∙ ap (λ o. outcome_with o (verdict_of sigs J role c)) (answer-replay sigs J c l)

-- what needs memory on the board needs it after the history
pub memory-replay : (sigs : List (ℕ × Promise)) (J : History) (role : Role) (c : Command)
    → IsLegal sigs J
    → (is_alerts c || board_loads (replay sigs J) role c) ≡ needs_memory sigs J role c
memory-replay sigs J role c l =
    ap (λ v. is_alerts c || (takes_programs c && is_accepted v)) (verdict-replay sigs J role c l)

-- the record at a flight's place
module _ (J : History) (f place : ℕ) (rs : List Fields) (is : rs ≡ records_of J)
    (at : place ≡ place_of rs f) where
  at_flight : place ≡ position_or_len (is_it f) (flights J)
  at_flight = at ∙ ap (λ b. place_of b f) is ∙ place-replay J f (flights J)

  pub exists_by_place : exists J f ≡ nat_lt place (length rs)
  exists_by_place = sym (there-replay J f) ∙ sym (ap (λ b. nat_lt (place_of b f) (length b)) is)
      ∙ sym (ap (λ n. nat_lt n (length rs)) at)

  pub record_by_place : exists J f ≡ true → (d : Fields) → get_or rs place d ≡ record_of J f
  record_by_place h d =
      ap (λ b. get_or b place d) is ∙ ap (λ n. get_or (records_of J) n d) at_flight
      ∙ found f (record_of J) d (flights J) h
