-- What a step on the board is, by what came of the command.
use Rattle.std.proofs.Common.{◌≡◌, ℕ, ◌<◌, ◌≤◌, Bool, true, false, cond, ◌||◌, nat_lt, List}
use Rattle.std.proofs.Common.{[], ◌∷◌, ◌++◌, map, length, get_or, set, Some, refl, Result}
use Rattle.std.proofs.Common.{Ok, Err, is_ok, OnOk, OnErr, sym, ap, subst, ◌∙◌, arith, append-nil}
use Rattle.std.proofs.lemmas.List.{get_or_default}
use Rattle.std.proofs.lemmas.Bool.Decides.{nat_tests}
use Rattle.acdm_record.specs.Fields.{Fields, migrated}
use Rattle.acdm_milestones.specs.declared.role.Role.{Role}
use Rattle.acdm_milestones.specs.declared.refusal.Refusal.TheVariants.{Unanswered}
use Rattle.bpf_helpers.specs.Oracles.{OracleView, Gained, Unasked}
use Rattle.acdm_slots.specs.Loaded.{Loaded, program_in}
use Rattle.acdm_step.specs.declared.command.Command.{Command}
use Rattle.acdm_step.specs.declared.command.Command.TheVariants.{Load, Unload, Tick, Migrate, Show}
use Rattle.acdm_step.specs.declared.command.Command.TheVariants as commands
use Rattle.acdm_step.specs.declared.command.Load as command_load
use Rattle.acdm_step.specs.declared.command.Unload as command_unload
use Rattle.acdm_step.specs.declared.outcome.Outcome.{Outcome}
use Rattle.acdm_step.specs.declared.outcome.Outcome.TheVariants as outcomes
use Rattle.acdm_step.specs.declared.entry.Verdict.{Verdict}
use Rattle.acdm_step.specs.declared.entry.Verdict.TheVariants.{Accepted, Refused}
use Rattle.acdm_step.specs.Commands.{flight_of, told_milestone, is_accepted, is_tick, changes_flight}
use Rattle.acdm_step.specs.Commands.{is_alerts, is_migrate}
use Rattle.acdm_step.specs.InSlots.{with_slots}
use Rattle.acdm_step.specs.Verdicts.{verdict_for, load_verdict, unload_verdict, tick_verdict}
use Rattle.acdm_step.specs.Verdicts.{show_verdict, alert_list, outcome_with}
use Rattle.acdm_step.specs.Verdicts.{load_obstacle, unload_obstacle, migrate_verdict}
use Rattle.acdm_step.specs.Verdicts.{migrate_obstacle}
use Rattle.bpf_regstate.specs.declared.length.Length.TheVariants.{L160}
use Rattle.acdm_slots.specs.Migration.{unloaded}
use Rattle.acdm_step.specs.History.{Board}
use Rattle.acdm_step.specs.Board.{board_of, begun, assigned_to, touched, place_of, is_there, record_on}
use Rattle.acdm_step.specs.Board.{put, record_after, programs_on, obstacle_on, board_verdict}
use Rattle.acdm_step.specs.Board.{board_loads, board_outcome, board_changed}
use Rattle.acdm_step.specs.Board.{board_after}
use Rattle.acdm_step.specs.Programs.{no_effect, effect_with, effect_or_none, with_effect}
use Rattle.acdm_step.specs.Ran.{Ran}
use Rattle.acdm_step.proofs.Saying.{none_ran, say_said}
use Rattle.acdm_step.specs.Running.{ChangesTo, AsksIn, Comes, answered, unanswered}

pub on_err : {T E P : Type 0} (r : Result T E) → P → OnErr r P
on_err (Ok x) p = tt
on_err (Err e) p = p

pub is_lt : (a b : ℕ) → a < b → nat_lt a b ≡ true
is_lt a b h = grind (arith, nat_tests)

pub no_lt : (a b : ℕ) → b ≤ a → nat_lt a b ≡ false
no_lt a b h = grind (arith, nat_tests)

get_default : (b : List Fields) (d : Fields) (place : ℕ) (r : Fields) → place < length b
    → r ≡ get_or b place r → get_or b place d ≡ r
get_default b d place r h is = get_or_default b place d r h ∙ sym is

-- what a result that is known to be one or the other ensures
pub when_ok : {T E P : Type 0} (r : Result T E) → is_ok r ≡ true → OnOk r P → P
when_ok (Ok x) h p = p
when_ok (Err e) h p = absurd (cc)

pub when_err : {T E P : Type 0} (r : Result T E) → is_ok r ≡ false → OnErr r P → P
when_err (Ok x) h p = absurd (cc)
when_err (Err e) h p = p

-- ---- the record at a flight's place

pub record_there : (b : Board) (flight place : ℕ) (r s : Fields)
    → place ≡ place_of b.records flight → place < length b.records → r ≡ get_or b.records place r
    → s ≡ r → s ≡ record_on b flight
record_there b flight place r s at inside is copied =
    let first = begun b.slots.record_length flight in
    copied ∙ sym (ap (λ n. get_or b.records n first) (sym at)
    ∙ get_default b.records first place r inside is)

-- ---- commands by their kind

pub change_no_tick : (c : Command) → changes_flight c ≡ true → is_tick c ≡ false
change_no_tick (commands.Schedule k) h = refl
change_no_tick (commands.Report k) h = refl
change_no_tick (commands.Deice k) h = refl
change_no_tick _ h = absurd (cc)

change_keeps_slots : (c : Command) (l : Loaded) → changes_flight c ≡ true → with_slots c l ≡ l
change_keeps_slots (commands.Schedule k) l h = refl
change_keeps_slots (commands.Report k) l h = refl
change_keeps_slots (commands.Deice k) l h = refl
change_keeps_slots _ l h = absurd (cc)

pub change_no_migrate : (c : Command) → changes_flight c ≡ true → is_migrate c ≡ false
change_no_migrate (commands.Schedule k) h = refl
change_no_migrate (commands.Report k) h = refl
change_no_migrate (commands.Deice k) h = refl
change_no_migrate _ h = absurd (cc)

change_outcome_is : (b : Board) (role : Role) (c : Command) → changes_flight c ≡ true
    → outcome_with outcomes.Done (board_verdict b role c) ≡ board_outcome b role c
unfolding board_outcome
change_outcome_is b role (commands.Schedule x) k = refl
change_outcome_is b role (commands.Report x) k = refl
change_outcome_is b role (commands.Deice x) k = refl
change_outcome_is b role _ k = absurd (cc)

accepted_is : (v : Verdict) → is_accepted v ≡ true → outcomes.Done ≡ outcome_with outcomes.Done v
accepted_is Accepted h = refl
accepted_is (Refused x) h = absurd (cc)

-- where no program runs, no answer is used
no_runs : (l : Loaded) (c : Command) (r : Fields) (moment : ℕ) → changes_flight c ≡ false
    → Ran (programs_on l c) r moment (told_milestone c) []
no_runs l (commands.Schedule k) r moment h = absurd (cc)
no_runs l (commands.Report k) r moment h = absurd (cc)
no_runs l (commands.Deice k) r moment h = absurd (cc)
no_runs l _ r moment h = (no_effect, none_ran r moment 0)

nothing_gained : (from to : OracleView) → Unasked from to → Gained from to []
nothing_gained from to e = e.log ∙ sym (append-nil from.log)

-- ---- what comes of a command on a board

module _ (b : Board) (role : Role) (moment : ℕ) (c : Command) where
  -- a refused command leaves the board
  pub left : (answers : List ℕ) → is_accepted (board_verdict b role c) ≡ false
      → b ≡ board_after b role moment c answers
  unfolding board_after
  left answers d =
      sym (ap (λ v. cond v (record {
        records = board_changed b moment c answers;
        slots = with_slots c b.slots;
      }) b) d)

  taken : (answers : List ℕ) → is_accepted (board_verdict b role c) ≡ true
      → record { records = board_changed b moment c answers; slots = with_slots c b.slots }
      ≡ board_after b role moment c answers
  unfolding board_after
  taken answers d =
      sym (ap (λ v. cond v (record {
        records = board_changed b moment c answers;
        slots = with_slots c b.slots;
      }) b) d)

  module _ (from to : OracleView) (outcome : Outcome) where
    -- a refused change
    pub comes_refused : (v : Verdict) → changes_flight c ≡ true → v ≡ board_verdict b role c
        → is_accepted v ≡ false → Unasked from to → outcome ≡ outcome_with outcomes.Done v
        → Comes b role moment c from to outcome b
    comes_refused v k e d same is =
        let no : is_accepted (board_verdict b role c) ≡ false = sym (ap is_accepted e) ∙ d in
        answered [] (nothing_gained from to same) same.refusals (is
        ∙ ap (outcome_with outcomes.Done) e
        ∙ change_outcome_is b role c k) (λ t. absurd (cc)) (λ t. refl) (left [] no)

    pub comes_unanswered : (v : Verdict) (r : Fields) → v ≡ board_verdict b role c
        → is_accepted v ≡ true → r ≡ record_on b (flight_of c)
        → outcome ≡ outcomes.Refused Unanswered
        → AsksIn (programs_on b.slots c) (assigned_to r c) moment (told_milestone c) from to
        → Comes b role moment c from to outcome b
    comes_unanswered v r e d is out h =
        unanswered out (sym (ap is_accepted e)
        ∙ d) (subst (λ x. AsksIn (programs_on b.slots c) (assigned_to x c) moment (told_milestone c)
        from to) is h) refl

    -- a change of one record
    pub comes_changed : (v : Verdict) (r s : Fields) (rs : List Fields) → changes_flight c ≡ true
        → v ≡ board_verdict b role c → is_accepted v ≡ true → r ≡ record_on b (flight_of c)
        → outcome ≡ outcomes.Done → ChangesTo (programs_on b.slots c) r moment c from to s
        → rs ≡ put b.records (flight_of c) s
        → Comes b role moment c from to outcome (board_of rs b.slots)
    comes_changed v r s rs k e d is out h stored =
        let yes : is_accepted (board_verdict b role c) ≡ true = sym (ap is_accepted e) ∙ d in
        let h' : ChangesTo (programs_on b.slots c) (record_on b (flight_of c)) moment c from
        to s = subst (λ x. ChangesTo (programs_on b.slots c) x moment c from to s) is h in
        let x : Fields = assigned_to (record_on b (flight_of c)) c in
        let all : effect_with (programs_on b.slots c) x moment (told_milestone c) h'.0 ≡ Some (h'.1, []) =
        ap (effect_with (programs_on b.slots c) x moment (told_milestone c)) (sym (append-nil h'.0))
        ∙ say_said (programs_on b.slots c) x moment (told_milestone c) h'.0 h'.1 h'.3 [] in
        let record_is : s ≡ record_after (programs_on b.slots c) (record_on b (flight_of c))
        moment c h'.0 =
        h'.4 ∙ ap (λ o. touched moment (with_effect (effect_or_none o) x)) (sym all) in
        let here : List Fields = put b.records (flight_of c)
        (record_after (programs_on b.slots c) (record_on b (flight_of c)) moment c h'.0)
        in
        let records : rs ≡ board_changed b moment c h'.0 =
        stored ∙ ap (put b.records (flight_of c)) record_is
        ∙ sym (ap (λ t. cond t (map (touched moment) b.records)
        (cond (is_migrate c) (map migrated b.records)
        (cond (changes_flight c) here b.records))) (change_no_tick c k)
        ∙ ap (λ t. cond t (map migrated b.records) (cond (changes_flight c) here b.records))
        (change_no_migrate c k)
        ∙ ap (λ t. cond t here b.records) k) in
        let slots : b.slots ≡ with_slots c b.slots = sym (change_keeps_slots c b.slots k) in
        answered h'.0 h'.2 h'.5 (out ∙ accepted_is (board_verdict b role c) yes
        ∙ change_outcome_is b role c k) (λ t. (h'.1, h'.3)) (λ t. absurd (cc))
        ((λ i. record { records = records i; slots = slots i }) ∙ taken h'.0 yes)

    -- what runs no program
    pub comes_quiet : (new : Board) → changes_flight c ≡ false → Unasked from to
        → outcome ≡ board_outcome b role c → new ≡ board_after b role moment c []
        → Comes b role moment c from to outcome new
    comes_quiet new k same is after =
        answered [] (nothing_gained from to same) same.refusals
        is (λ t. no_runs b.slots c (assigned_to (record_on b (flight_of c)) c) moment k)
        (λ t. refl) after

  -- what changes slots alone, or nothing
  pub quiet_after : (rs : List Fields) (sl : Loaded) → is_tick c ≡ false → is_migrate c ≡ false
      → changes_flight c ≡ false → rs ≡ b.records → sl ≡ cond (is_accepted (board_verdict b role c)) (with_slots c b.slots)
      b.slots
      → board_of rs sl ≡ board_after b role moment c []
  unfolding board_after
  quiet_after rs sl t m k e f =
      let same : b.records ≡ board_changed b moment c [] =
      sym (ap (λ v. cond v (map (touched moment) b.records)
      (cond (is_migrate c) (map migrated b.records) (cond (changes_flight c) here b.records))) t
      ∙ ap (λ v. cond v (map migrated b.records) (cond (changes_flight c) here b.records)) m
      ∙ ap (λ v. cond v here b.records) k) in
      (λ i. record { records = (e ∙ same) i; slots = f i })
      ∙ either (is_accepted (board_verdict b role c)) (board_changed b moment c []) same
    where
      here : List Fields
      here = put b.records (flight_of c)
          (record_after (programs_on b.slots c) (record_on b (flight_of c)) moment c [])

      either : (v : Bool) (rs : List Fields) → b.records ≡ rs
          → record { records = rs; slots = cond v (with_slots c b.slots) b.slots }
          ≡ cond v (record { records = rs; slots = with_slots c b.slots }) b
      either true rs e = refl
      either false rs e = λ i. record { records = sym e i; slots = b.slots }

same_slots : (v : Bool) (l : Loaded) → l ≡ cond v l l
same_slots true l = refl
same_slots false l = refl

-- ---- each command that changes no record of one flight

module _ (b : Board) (role : Role) (moment : ℕ) (from to : OracleView) (outcome : Outcome)
    (same : Unasked from to) where
  pub comes_tick : (v : Verdict) (rs : List Fields) → v ≡ tick_verdict role
      → outcome ≡ outcome_with outcomes.Done v
      → rs ≡ cond (is_accepted (tick_verdict role)) (map (touched moment) b.records) b.records
      → Comes b role moment Tick from to outcome (board_of rs b.slots)
  unfolding board_outcome board_verdict board_after
  comes_tick v rs e is after =
      comes_quiet b role moment Tick from to outcome (board_of rs b.slots) refl same (is
      ∙ ap (outcome_with outcomes.Done) e) ((λ i. record { records = after i; slots = b.slots })
      ∙ either (is_accepted (tick_verdict role)))
    where
      either : (t : Bool) → record {
        records = cond t (map (touched moment) b.records) b.records;
        slots = b.slots;
      } ≡ cond t (record {
        records = map (touched moment) b.records;
        slots = b.slots;
      }) b
      either true = refl
      either false = refl

  -- a question leaves the board
  asked : (c : Command) → is_tick c ≡ false → is_migrate c ≡ false → changes_flight c ≡ false
      → with_slots c b.slots ≡ b.slots → outcome ≡ board_outcome b role c
      → Comes b role moment c from to outcome b
  asked c t m k w is =
      comes_quiet b role moment c from to outcome b k same is
      (quiet_after b role moment c b.records b.slots t m k refl
      (same_slots (is_accepted (board_verdict b role c)) b.slots
      ∙ ap (λ l. cond (is_accepted (board_verdict b role c)) l b.slots) (sym w)))

  pub comes_show : (f : ℕ) → outcome
      ≡ outcome_with (outcomes.Shown (record_on b f)) (show_verdict (is_there b.records f))
      → Comes b role moment (Show f) from to outcome b
  unfolding board_outcome board_verdict
  comes_show f is = asked (Show f) refl refl refl refl is

  pub comes_alerts : outcome ≡ outcomes.Listed (alert_list b.records)
      → Comes b role moment commands.Alerts from to outcome b
  unfolding board_outcome board_verdict
  comes_alerts is = asked commands.Alerts refl refl refl refl is

  -- a load or an unload
  pub comes_placed : (c : Command) (v : Verdict) (sl : Loaded) → is_tick c ≡ false
      → is_migrate c ≡ false → changes_flight c ≡ false → v ≡ board_verdict b role c
      → outcome ≡ outcome_with outcomes.Done v
      → outcome_with outcomes.Done v ≡ board_outcome b role c
      → sl ≡ cond (is_accepted (board_verdict b role c)) (with_slots c b.slots) b.slots
      → Comes b role moment c from to outcome (board_of b.records sl)
  comes_placed c v sl t m k e is out after =
      comes_quiet b role moment c from to outcome (board_of b.records sl) k same (is
      ∙ out) (quiet_after b role moment c b.records sl t m k refl after)

  -- a migrate
  pub comes_migrated : (v : Verdict) (new : Board) → v ≡ board_verdict b role Migrate
      → outcome ≡ outcome_with (outcomes.Migrated (unloaded L160 (program_in b.slots))) v
      → new ≡ cond (is_accepted (board_verdict b role Migrate))
      (board_of (map migrated b.records) (with_slots Migrate b.slots)) b
      → Comes b role moment Migrate from to outcome new
  unfolding board_outcome board_after
  comes_migrated v new e is after =
      comes_quiet b role moment Migrate from to outcome new refl same
      (is ∙ ap (outcome_with (outcomes.Migrated (unloaded L160 (program_in b.slots)))) e) after

  pub comes_loaded : (l : command_load.Load) (v : Verdict) (sl : Loaded)
      → v ≡ load_verdict (load_obstacle b.slots.sigs b.slots.record_length l.program) role
      → outcome ≡ outcome_with outcomes.Done v
      → sl ≡ cond (is_accepted (load_verdict (load_obstacle b.slots.sigs b.slots.record_length l.program) role))
      (with_slots (Load l) b.slots) b.slots
      → Comes b role moment (Load l) from to outcome (board_of b.records sl)
  unfolding board_outcome board_verdict
  comes_loaded l v sl e is after =
      comes_placed (Load l) v sl refl refl refl e is (ap (outcome_with outcomes.Done) e) after

  pub comes_unloaded : (u : command_unload.Unload) (v : Verdict) (sl : Loaded)
      → v ≡ unload_verdict (unload_obstacle (program_in b.slots u.milestone u.kind)) role
      → outcome ≡ outcome_with outcomes.Done v
      → sl ≡ cond (is_accepted (unload_verdict (unload_obstacle (program_in b.slots u.milestone u.kind))
      role)) (with_slots (Unload u) b.slots) b.slots
      → Comes b role moment (Unload u) from to outcome (board_of b.records sl)
  unfolding board_outcome board_verdict
  comes_unloaded u v sl e is after =
      comes_placed (Unload u) v sl refl refl refl e is (ap (outcome_with outcomes.Done) e) after

-- the same of a board that stays, and of a board and a command that are equal to these
pub comes_left : (b other : Board) (role : Role) (moment : ℕ) (c same : Command)
    (from to : OracleView) (outcome : Outcome) → b ≡ other → same ≡ c
    → Comes b role moment c from to outcome b → Comes other role moment same from to outcome other
comes_left b other role moment c same from to outcome e f h =
    subst (λ x. Comes x role moment same from to outcome x) e
    (subst (λ x. Comes b role moment x from to outcome b) (sym f) h)

-- a load that is taken needs memory
pub loading : (b : Board) (role : Role) (l : command_load.Load)
    → is_accepted (load_verdict (load_obstacle b.slots.sigs b.slots.record_length l.program) role) ≡ true
    → (is_alerts (Load l) || board_loads b role (Load l)) ≡ true
unfolding board_verdict
loading b role l h = h

pub migrating : (b : Board) (role : Role)
    → is_accepted (migrate_verdict (migrate_obstacle b.slots.record_length) role) ≡ true
    → (is_alerts Migrate || board_loads b role Migrate) ≡ true
unfolding board_verdict
migrating b role h = h

-- the record at a flight's place is what is shown of it
pub shown : (b : Board) (f place : ℕ) → place ≡ place_of b.records f → (r s : Fields)
    → place < length b.records → r ≡ get_or b.records place r → s ≡ r
    → outcomes.Shown s
    ≡ outcome_with (outcomes.Shown (record_on b f)) (show_verdict (is_there b.records f))
shown b f place at r s inside is copied =
    let there : is_there b.records f ≡ true = ap (λ n. nat_lt n (length b.records)) (sym at)
    ∙ is_lt place (length b.records) inside in
    ap outcomes.Shown (record_there b f place r s at inside is copied)
    ∙ sym (ap (λ t. outcome_with (outcomes.Shown (record_on b f)) (show_verdict t)) there)

-- ---- what the code knows of a command that changes a flight

module _ (bs : List Fields) (l : Loaded) (role : Role) (c : Command) (place flight count : ℕ)
    (at : place ≡ place_of bs flight) (of : flight ≡ flight_of c) (many : count ≡ length bs)
    (k : changes_flight c ≡ true) where
  here : place ≡ place_of bs (flight_of c)
  here = at ∙ ap (place_of bs) of

  pub verdict_is : (r : Fields) (o : Verdict) (t : Bool) → t ≡ nat_lt place count
      → r ≡ record_on (board_of bs l) flight → o ≡ verdict_for t count r (obstacle_on l c) role c
      → o ≡ board_verdict (board_of bs l) role c
  unfolding board_verdict
  verdict_is r o t test is e =
      e ∙ ap (λ b. verdict_for b count r (obstacle_on l c) role c) (test
      ∙ ap (λ n. nat_lt n count) here ∙ ap (λ n. nat_lt (place_of bs (flight_of c)) n) many)
      ∙ ap (λ n. verdict_for (is_there bs (flight_of c)) n r (obstacle_on l c) role c) many
      ∙ ap (λ x. verdict_for (is_there bs (flight_of c)) (length bs) x (obstacle_on l c) role c) (is
      ∙ ap (record_on (board_of bs l)) of)

  pub record_is : (r : Fields) → r ≡ record_on (board_of bs l) flight
      → r ≡ record_on (board_of bs l) (flight_of c)
  record_is r is = is ∙ ap (record_on (board_of bs l)) of

  pub put_there : (s : Fields) (rs : List Fields) → place < count → rs ≡ set bs place s
      → rs ≡ put bs (flight_of c) s
  put_there s rs inside is =
      let there : is_there bs (flight_of c) ≡ true = ap (λ n. nat_lt n (length bs)) (sym here)
      ∙ is_lt place (length bs) (omega (arith, many)) in
      is ∙ ap (λ n. set bs n s) here
      ∙ sym (ap (λ t. cond t (set bs (place_of bs (flight_of c)) s) (bs ++ s ∷ [])) there)

  flag_absent : count ≤ place → is_there bs (flight_of c) ≡ false
  flag_absent outside = ap (λ n. nat_lt n (length bs)) (sym here)
      ∙ no_lt place (length bs) (omega (arith, many))

  pub put_absent : (s : Fields) (rs : List Fields) → count ≤ place → rs ≡ bs ++ s ∷ []
      → rs ≡ put bs (flight_of c) s
  put_absent s rs outside is = is ∙ sym
      (ap (λ t. cond t (set bs (place_of bs (flight_of c)) s) (bs ++ s ∷ [])) (flag_absent outside))

  -- the record, the verdict on it, and the record of the flight after its programs
  module _ (r : Fields) (o : Verdict) (t : Bool) (test : t ≡ nat_lt place count)
      (is : r ≡ record_on (board_of bs l) flight)
      (e : o ≡ verdict_for t count r (obstacle_on l c) role c) (moment : ℕ)
      (from to : OracleView) (outcome : Outcome) where
    right : o ≡ board_verdict (board_of bs l) role c
    right = verdict_is r o t test is e

    pub flight_refused : is_accepted o ≡ false → Unasked from to
        → outcome ≡ outcome_with outcomes.Done o
        → Comes (board_of bs l) role moment c from to outcome (board_of bs l)
    flight_refused d same out = comes_refused (board_of bs l) role moment c from to outcome o k
        right d same out

    pub flight_unanswered : is_accepted o ≡ true → outcome ≡ outcomes.Refused Unanswered
        → (rs : List Fields) → rs ≡ bs
        → AsksIn (programs_on l c) (assigned_to r c) moment (told_milestone c) from to
        → Comes (board_of bs l) role moment c from to outcome (board_of rs l)
    flight_unanswered d out rs same h =
        subst (λ x. Comes (board_of bs l) role moment c from to outcome (board_of x l)) (sym same)
        (comes_unanswered (board_of bs l) role moment c from to outcome o r right d
        (record_is r is) out h)

    pub flight_changed : is_accepted o ≡ true → outcome ≡ outcomes.Done
        → (s : Fields) (rs : List Fields) → ChangesTo (programs_on l c) r moment c from to s
        → rs ≡ put bs (flight_of c) s → Comes (board_of bs l) role moment c from to outcome
        (board_of rs l)
    flight_changed d out s rs h stored =
        comes_changed (board_of bs l) role moment c from to outcome o r s rs k right d
        (record_is r is) out h stored
