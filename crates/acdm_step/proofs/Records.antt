-- A record after an accepted command is the record that the longer history tells.
use Rattle.std.proofs.Common.{◌≡◌, ℕ, ◌+◌, ◌<◌, ◌^◌, Bool, true, false, cond, ◌&&◌, ◌||◌, ◌==◌}
use Rattle.std.proofs.Common.{List, [], ◌∷◌, ◌++◌, bit_or, max, Option, Some, None, option_map}
use Rattle.std.proofs.Common.{is_some, ◌⊎◌, inl, inr, refl, sym, ap, ◌∙◌, arith, eqb-true, eq-eqb}
use Rattle.std.proofs.lemmas.Bool.{eqb-false}
use Rattle.std.proofs.lemmas.Nat.Bits.{bit_at_or, bit_at-pow_same, bit_at-pow_other, bit_at-zero}
use Rattle.std.proofs.lemmas.Nat.Bits.{bit_at-lt}
use Rattle.std.specs.Int.{bit_at}
use Rattle.std.specs.List.{list_any}
use Rattle.std.specs.Cmp.{first_so, second_so}
use Rattle.acdm_record.specs.declared.field.Field.{Field}
use Rattle.acdm_record.specs.declared.field.Field.TheVariants.{Flight, Layout, Reached, Alerts}
use Rattle.acdm_record.specs.declared.field.Field.TheVariants.{Tobt, Tsat}
use Rattle.acdm_record.specs.declared.field.TextField.{TextField}
use Rattle.acdm_record.specs.declared.field.TextField.TheVariants.{Callsign}
use Rattle.acdm_record.specs.Fields.{set_number, set_text, migrated}
use Rattle.acdm_record.specs.Assign.{Assignment, number_is, text_is, with_all}
use Rattle.acdm_alerts.specs.Conditions.{conditions}
use Rattle.acdm_alerts.specs.Decided.{decided_word}
use Rattle.acdm_alerts.proofs.Sums.{IsComputed, conditions-computed, zero-computed}
use Rattle.acdm_alerts.proofs.DecidedBits.{kept_bits-decided, with_rejection-decided}
use Rattle.acdm_alerts.proofs.DecidedBits.{with_locals-decided}
use Rattle.acdm_milestones.specs.declared.milestone.Milestone.{Milestone}
use Rattle.acdm_milestones.specs.declared.milestone.Milestone.TheVariants.{FlightPlanActivated}
use Rattle.acdm_milestones.specs.declared.milestone.Milestone.TheVariants.{TobtUpdate}
use Rattle.acdm_milestones.specs.declared.deicing.DeicingTime.{DeicingTime}
use Rattle.acdm_milestones.specs.declared.deicing.DeicingTime.TheVariants.{EstimatedCommencement}
use Rattle.acdm_milestones.specs.Deicing.{deicing_field}
use Rattle.acdm_milestones.specs.Tables.{times_of, marked_by, has_reached}
use Rattle.acdm_step.specs.Programs.{Programs, Suggestion, Nothing, Usable, Unusable, Effect}
use Rattle.acdm_step.specs.Programs.{effect, with_suggestion, with_local_alerts, with_effect}
use Rattle.acdm_step.specs.declared.command.FlightPlan.{FlightPlan}
use Rattle.acdm_step.specs.declared.command.Command.{Command}
use Rattle.acdm_step.specs.declared.command.Command.TheVariants.{Schedule, Report, Deice}
use Rattle.acdm_step.specs.declared.entry.Entry.{Entry}
use Rattle.acdm_step.specs.Commands.{History, plan_assignments, assigned_by, bit_of, told_milestone, flight_of}
use Rattle.acdm_step.specs.Commands.{changes_flight, creates, is_of, ticks, migrates, is_accepted, created}
use Rattle.acdm_step.specs.InSlots.{programs_of}
use Rattle.acdm_step.specs.Summaries.{Summary, onto, with_command, with_tick, with_migrate}
use Rattle.acdm_step.specs.Summaries.{summary_after}
use Rattle.acdm_step.specs.Summaries.{summary, record_with, computed_at, alerts_from, record_from}
use Rattle.acdm_step.specs.Summaries.{record_of, run_record, effect_on, with_tobt, with_ninth}
use Rattle.acdm_step.specs.Summaries.{rejects, number_or, gives_tobt, reaches, has_come_to}
use Rattle.acdm_step.specs.Summaries.{with_bit, is_bit}
use Rattle.acdm_step.specs.Summaries.{with_flight, flights, exists}
use Rattle.acdm_step.specs.Board.{assigned_to, record_after, touched}

-- ---- one assignment

-- the fields that commands assign: not the flight's number, the layout, the reached word and the
-- alert word
abbrev pub is_plain : Field → Bool
is_plain Flight = false
is_plain Layout = false
is_plain Reached = false
is_plain Alerts = false
is_plain _ = true

abbrev pub are_plain : List Assignment → Bool
are_plain [] = true
are_plain (number_is g v ∷ more) = is_plain g && are_plain more
are_plain (text_is t v ∷ more) = are_plain more

set_one : (f : ℕ) (ps : List Assignment) (rs al : ℕ) (g : Field) (v : ℕ) → is_plain g ≡ true
    → set_number (record_with f ps rs al) g v ≡ record_with f (number_is g v ∷ ps) rs al
set_one f ps rs al Flight v h = absurd (cc)
set_one f ps rs al Layout v h = absurd (cc)
set_one f ps rs al Reached v h = absurd (cc)
set_one f ps rs al Alerts v h = absurd (cc)
set_one f ps rs al _ v h = refl

set_one_text : (f : ℕ) (ps : List Assignment) (rs al : ℕ) (u : TextField) (v : List ℕ)
    → set_text (record_with f ps rs al) u v ≡ record_with f (text_is u v ∷ ps) rs al
set_one_text f ps rs al Callsign v = refl
set_one_text f ps rs al _ v = refl

with_all-record_with : (f : ℕ) (qs ps : List Assignment) (rs al : ℕ) → are_plain qs ≡ true
    → with_all (record_with f ps rs al) qs ≡ record_with f (onto qs ps) rs al
with_all-record_with f [] ps rs al h = refl
with_all-record_with f (number_is g v ∷ qs) ps rs al h =
    ap (λ r. with_all r qs) (set_one f ps rs al g v (first_so (is_plain g) (are_plain qs) h))
    ∙ with_all-record_with f qs (number_is g v ∷ ps) rs al
    (second_so (is_plain g) (are_plain qs) h)
with_all-record_with f (text_is u v ∷ qs) ps rs al h =
    ap (λ r. with_all r qs) (set_one_text f ps rs al u v)
    ∙ with_all-record_with f qs (text_is u v ∷ ps) rs al h

-- ---- alerts

computed_at-computed : (f : ℕ) (ps : List Assignment) (rs : ℕ) (touch : Option ℕ)
    → IsComputed (computed_at f ps rs touch)
computed_at-computed f ps rs None = zero-computed
computed_at-computed f ps rs (Some moment) = conditions-computed (record_with f ps rs 0) moment

module _ (f x : ℕ) (computed : IsComputed x) where
  -- a touch computes the alerts of the fields; what was decided stays
  touched-record_with : (ps : List Assignment) (rs moment : ℕ) (b : Bool) (l : ℕ)
      → touched moment (record_with f ps rs (decided_word b l + x))
      ≡ record_with f ps rs (decided_word b l + conditions (record_with f ps rs 0) moment)
  touched-record_with ps rs moment b l =
      ap (λ n. record_with f ps rs (n + conditions (record_with f ps rs 0) moment))
      (kept_bits-decided x computed b l)

  with_suggestion-record_with : (s : Suggestion) (ps : List Assignment) (rs : ℕ) (b : Bool) (l : ℕ)
      → with_suggestion s (record_with f ps rs (decided_word b l + x))
      ≡ record_with f (with_tobt s ps) (with_ninth s rs) (decided_word (rejects s b) l + x)
  with_suggestion-record_with Nothing ps rs b l = refl
  with_suggestion-record_with (Usable tobt) ps rs b l =
      ap (record_with f (number_is Tobt tobt ∷ ps) (bit_or rs (2 ^ 9)))
      (with_rejection-decided x computed b l false)
  with_suggestion-record_with Unusable ps rs b l =
      ap (record_with f ps rs) (with_rejection-decided x computed b l true)

  with_local_alerts-record_with : (o : Option ℕ) (ps : List Assignment) (rs : ℕ) (b : Bool) (l : ℕ)
      → with_local_alerts o (record_with f ps rs (decided_word b l + x))
      ≡ record_with f ps rs (decided_word b (number_or o l) + x)
  with_local_alerts-record_with None ps rs b l = refl
  with_local_alerts-record_with (Some k) ps rs b l =
      ap (record_with f ps rs) (with_locals-decided x computed b l k)

  with_effect-record_with : (s : Effect) (ps : List Assignment) (rs : ℕ) (b : Bool) (l : ℕ)
      → with_effect s (record_with f ps rs (decided_word b l + x))
      ≡ record_with f (with_tobt s.tobt ps) (with_ninth s.tobt rs)
      (decided_word (rejects s.tobt b) (number_or s.locals l) + x)
  with_effect-record_with s ps rs b l =
      ap (with_local_alerts s.locals) (with_suggestion-record_with s.tobt ps rs b l)
      ∙ with_local_alerts-record_with s.locals (with_tobt s.tobt ps) (with_ninth s.tobt rs)
      (rejects s.tobt b) l

-- ---- what a command assigns

plain-append : (xs ys : List Assignment) → are_plain xs ≡ true → are_plain ys ≡ true
    → are_plain (xs ++ ys) ≡ true
plain-append [] ys h k = k
plain-append (number_is g v ∷ xs) ys h k =
    ap (λ b. b && are_plain (xs ++ ys)) (first_so (is_plain g) (are_plain xs) h)
    ∙ plain-append xs ys (second_so (is_plain g) (are_plain xs) h) k
plain-append (text_is t v ∷ xs) ys h k = plain-append xs ys h k

plain_times : (m : Milestone) (time : ℕ) → are_plain (times_of m time) ≡ true
plain_times TobtUpdate time = elim (time == 0)
    as (λ b. are_plain (number_is Tobt time ∷ cond b (number_is Tsat 0 ∷ []) []) ≡ true) [
      | true ↦
          refl
      | false ↦ refl
    ]
plain_times FlightPlanActivated time = refl
plain_times _ time = refl

plain_plan : (p : Option FlightPlan) → are_plain (plan_assignments p) ≡ true
plain_plan None = refl
plain_plan (Some p) = refl

plain_deicing : (which : DeicingTime) (time : ℕ)
    → are_plain (number_is (deicing_field which) time ∷ []) ≡ true
plain_deicing EstimatedCommencement time = refl
plain_deicing _ time = refl

pub plain_command : (c : Command) → are_plain (assigned_by c) ≡ true
plain_command (Schedule s) = refl
plain_command (Report r) =
    plain-append (times_of r.milestone r.time) (plan_assignments r.plan)
    (plain_times r.milestone r.time) (plain_plan r.plan)
plain_command (Deice d) = plain_deicing d.which d.time
plain_command _ = refl

marked-record_with : (f : ℕ) (ps : List Assignment) (rs al : ℕ) (bit : Option ℕ)
    → marked_by (record_with f ps rs al) bit ≡ record_with f ps (with_bit bit rs) al
marked-record_with f ps rs al None = refl
marked-record_with f ps rs al (Some m) = refl

-- what a command assigns and reaches
pub assigned-reported : (f : ℕ) (t : Summary) (c : Command)
    → assigned_to (record_from f t) c ≡ run_record f c t
assigned-reported f t c = ap (λ r. marked_by r (bit_of c))
    (with_all-record_with f (assigned_by c) t.assigned t.reached (alerts_from f t)
    (plain_command c)) ∙ marked-record_with f (onto (assigned_by c) t.assigned) t.reached
    (alerts_from f t) (bit_of c)

changed-record_from : (ps : Programs) (f : ℕ) (t : Summary) (moment : ℕ) (c : Command)
    (answers : List ℕ)
    → record_after ps (record_from f t) moment c answers
    ≡ record_from f (with_command c moment
    (effect ps (run_record f c t) moment (told_milestone c) answers) t)
changed-record_from ps f t moment c answers =
    let s : Effect = effect ps (run_record f c t) moment (told_milestone c) answers in
    let x : ℕ = computed_at f t.assigned t.reached t.touch in
    let is = computed_at-computed f t.assigned t.reached t.touch in
    ap (λ r. touched moment (with_effect (effect ps r moment (told_milestone c) answers) r))
    (assigned-reported f t c)
    ∙ ap (touched moment) (with_effect-record_with f x is s (onto (assigned_by c) t.assigned)
    (with_bit (bit_of c) t.reached) t.rejected t.locals)
    ∙ touched-record_with f x is (with_tobt s.tobt (onto (assigned_by c) t.assigned))
    (with_ninth s.tobt (with_bit (bit_of c) t.reached)) moment (rejects s.tobt t.rejected)
    (number_or s.locals t.locals)

-- what an entry adds where it is of the flight
abbrev added : Entry → History → ℕ → Summary
added e J g = with_command e.command e.moment
    (effect_on (programs_of J e.command) e g (summary J g)) (summary J g)

-- what an entry adds that is not of the flight
abbrev pub beside : Bool → Bool → ℕ → Summary → Summary
beside tick migrate moment t = cond tick (with_tick moment t) (cond migrate (with_migrate t) t)

-- an entry that is no tick and no migrate, and is refused or of another flight, leaves a record as
-- it is
pub record_same : (e : Entry) (J : History) (g : ℕ) → is_of g e ≡ false → ticks e ≡ false
    → migrates e ≡ false → record_of (e ∷ J) g ≡ record_of J g
record_same e J g h k m =
    ap (λ b. record_from g (cond b (added e J g)
    (beside (ticks e) (migrates e) e.moment (summary J g)))) h
    ∙ ap (λ b. record_from g (beside b (migrates e) e.moment (summary J g))) k
    ∙ ap (λ b. record_from g (beside false b e.moment (summary J g))) m

-- a migrate brings a record to layout 2, and leaves its alerts
migrated-record_from : (f : ℕ) (t : Summary)
    → record_from f (with_migrate t) ≡ migrated (record_from f t)
migrated-record_from f t = go t.assigned t.reached t.touch t.rejected t.locals
  where
    go : (ps : List Assignment) (rs : ℕ) (touch : Option ℕ) (b : Bool) (l : ℕ)
        → record_with f (number_is Layout 2 ∷ ps) rs
        (decided_word b l + computed_at f (number_is Layout 2 ∷ ps) rs touch)
        ≡ migrated (record_with f ps rs (decided_word b l + computed_at f ps rs touch))
    go ps rs None b l = refl
    go ps rs (Some n) b l = refl

pub record_migrated : (e : Entry) (J : History) (g : ℕ) → is_of g e ≡ false → ticks e ≡ false
    → migrates e ≡ true → record_of (e ∷ J) g ≡ migrated (record_of J g)
record_migrated e J g h k m =
    ap (λ b. record_from g (cond b (added e J g)
    (beside (ticks e) (migrates e) e.moment (summary J g)))) h
    ∙ ap (λ b. record_from g (beside b (migrates e) e.moment (summary J g))) k
    ∙ ap (λ b. record_from g (beside false b e.moment (summary J g))) m
    ∙ migrated-record_from g (summary J g)

-- an accepted entry changes the record of its flight
pub record_changed : (e : Entry) (J : History) → is_accepted e.verdict ≡ true
    → changes_flight e.command ≡ true
    → record_of (e ∷ J) (flight_of e.command)
    ≡ record_after (programs_of J e.command) (record_of J (flight_of e.command)) e.moment
    e.command e.answers
record_changed e J h k =
    let f : ℕ = flight_of e.command in
    let both : is_of f e ≡ true = ap (λ b. b
    && (changes_flight e.command && flight_of e.command == f)) h
    ∙ ap (λ b. b && flight_of e.command == f) k ∙ eq-eqb f f refl in
    ap (λ b. record_from f (cond b (added e J f)
    (beside (ticks e) (migrates e) e.moment (summary J f)))) both
    ∙ sym (changed-record_from (programs_of J e.command) f (summary J f) e.moment e.command
    e.answers)

-- a flight that was touched is touched by a tick
with_tick-record : (f m : ℕ) (t : Summary) → is_some t.touch ≡ true
    → record_from f (with_tick m t) ≡ touched m (record_from f t)
with_tick-record f m t h = go t.assigned t.reached t.touch t.rejected t.locals h
  where
    go : (ps : List Assignment) (rs : ℕ) (touch : Option ℕ) (b : Bool) (l : ℕ)
        → is_some touch ≡ true
        → record_with f ps rs (decided_word b l + computed_at f ps rs (option_map (λ n. m) touch))
        ≡ touched m (record_with f ps rs (decided_word b l + computed_at f ps rs touch))
    go ps rs None b l h = absurd (cc)
    go ps rs (Some n) b l h =
        sym (touched-record_with f (computed_at f ps rs (Some n))
        (computed_at-computed f ps rs (Some n)) ps rs m b l)

pub record_ticked : (e : Entry) (J : History) (g : ℕ) → is_of g e ≡ false → ticks e ≡ true
    → is_some (summary J g).touch ≡ true → record_of (e ∷ J) g ≡ touched e.moment (record_of J g)
record_ticked e J g h k t =
    ap (λ b. record_from g (cond b (added e J g)
    (beside (ticks e) (migrates e) e.moment (summary J g)))) h
    ∙ ap (λ b. record_from g (beside b (migrates e) e.moment (summary J g))) k
    ∙ with_tick-record g e.moment (summary J g) t

-- what was touched stays so
touch_kept : (ps : Programs) (e : Entry) (f : ℕ) (t : Summary) → is_some t.touch ≡ true
    → is_some (summary_after ps e f t).touch ≡ true
touch_kept ps e f t h =
    elim (is_of f e) as (λ b. is_some
    (cond b (with_command e.command e.moment (effect_on ps e f t) t)
    (beside (ticks e) (migrates e) e.moment t)).touch ≡ true) [
      | true ↦ refl
      | false ↦ elim (ticks e)
          as (λ b. is_some (beside b (migrates e) e.moment t).touch ≡ true) [
            | true ↦ some_map t.touch h
            | false ↦ elim (migrates e)
                as (λ b. is_some (beside false b e.moment t).touch ≡ true) [
                  | true ↦ h
                  | false ↦ h
                ]
          ]
    ]
  where
    some_map : (o : Option ℕ) → is_some o ≡ true → is_some (option_map (λ n. e.moment) o) ≡ true
    some_map None h = h
    some_map (Some n) h = refl

-- a flight that is there was touched
creates_changes : (c : Command) → creates c ≡ true → changes_flight c ≡ true
creates_changes (Schedule s) h = refl
creates_changes (Report r) h = refl
creates_changes (Deice d) h = refl
creates_changes _ h = h

has_push : (f : ℕ) (fs : List ℕ) (o : Option ℕ) → list_any (λ g. g == f) (with_flight fs o) ≡ true
    → (list_any (λ g. g == f) fs ≡ true) ⊎ (o ≡ Some f)
has_push f fs None h = inl h
has_push f fs (Some x) h =
    elim (list_any (λ g. g == x) fs)
    as (λ b. list_any (λ g. g == f) (cond b fs (fs ++ x ∷ [])) ≡ true
    → (list_any (λ g. g == f) fs ≡ true) ⊎ (Some x ≡ Some f)) [
      | true ↦ λ e. inl e
      | false ↦ λ e. at_end fs e
    ] h
  where
    at_end : (gs : List ℕ) → list_any (λ g. g == f) (gs ++ x ∷ []) ≡ true
        → (list_any (λ g. g == f) gs ≡ true) ⊎ (Some x ≡ Some f)
    at_end [] e = elim (x == f) as (λ b. (x == f) ≡ b → (b || false) ≡ true
        → (false ≡ true) ⊎ (Some x ≡ Some f)) [
          | true ↦ λ t q. inr (ap Some (eqb-true x f t))
          | false ↦ λ t q. absurd (cc)
        ] refl e
    at_end (g ∷ gs) e =
        elim (g == f) as (λ b. (b || list_any (λ g. g == f) (gs ++ x ∷ [])) ≡ true
        → ((b || list_any (λ g. g == f) gs) ≡ true) ⊎ (Some x ≡ Some f)) [
          | true ↦ λ q. inl refl
          | false ↦ λ q. at_end gs q
        ] e

pub touched-there : (J : History) (f : ℕ) → exists J f ≡ true → is_some (summary J f).touch ≡ true
touched-there [] f h = h
touched-there (e ∷ J) f h =
    elim (has_push f (flights J) (created e) h) [
      | inl there ↦ touch_kept (programs_of J e.command) e f (summary J f) (touched-there J f there)
      | inr made ↦ new made
    ]
  where
    new : created e ≡ Some f → is_some (summary (e ∷ J) f).touch ≡ true
    new made =
        elim (is_accepted e.verdict && creates e.command)
        as (λ b. (is_accepted e.verdict && creates e.command) ≡ b
        → cond b (Some (flight_of e.command)) None ≡ Some f
        → is_some (summary (e ∷ J) f).touch ≡ true) [
          | true ↦ λ d s.
              let done : is_accepted e.verdict ≡ true =
              first_so (is_accepted e.verdict) (creates e.command) d in
              let makes : changes_flight e.command ≡ true =
              creates_changes e.command (second_so (is_accepted e.verdict) (creates e.command)
              d) in
              let same : flight_of e.command ≡ f = cc in
              let of : is_of f e ≡ true = ap (λ b. b
              && (changes_flight e.command && flight_of e.command == f)) done
              ∙ ap (λ b. b && flight_of e.command == f) makes
              ∙ eq-eqb (flight_of e.command) f same in
              ap (λ b. is_some (cond b (added e J f)
              (beside (ticks e) (migrates e) e.moment (summary J f))).touch) of
          | false ↦ λ d s. absurd (cc)
        ] refl made

-- ---- what the reached word means

bit_cases : (n : ℕ) → n < 2 → (max n 1 == 1) ≡ ((n == 1) || true)
bit_cases n h = grind arith

bit_kept : (n : ℕ) → n < 2 → (max n 0 == 1) ≡ ((n == 1) || false)
bit_kept n h = grind arith

or_bit : (a k m : ℕ) → (bit_at (bit_or a (2 ^ k)) m == 1) ≡ ((bit_at a m == 1) || (k == m))
or_bit a k m =
    ap (λ n. n == 1) (bit_at_or a (2 ^ k) m)
    ∙ (elim (k == m) as (λ b. (k == m) ≡ b
    → (max (bit_at a m) (bit_at (2 ^ k) m) == 1) ≡ ((bit_at a m == 1) || b)) [
      | true ↦ λ e. ap (λ n. max (bit_at a m) n == 1)
          (ap (λ j. bit_at (2 ^ k) j) (sym (eqb-true k m e)) ∙ bit_at-pow_same k)
          ∙ bit_cases (bit_at a m) (bit_at-lt a m)
      | false ↦ λ e. ap (λ n. max (bit_at a m) n == 1)
          (bit_at-pow_other k m (λ x. eqb-false k m e (sym x)))
          ∙ bit_kept (bit_at a m) (bit_at-lt a m)
    ] refl)

or_comm : (a b : Bool) → (a || b) ≡ (b || a)
or_comm true true = refl
or_comm true false = refl
or_comm false true = refl
or_comm false false = refl

or_left : (a b c : Bool) → ((a || b) || c) ≡ ((b || c) || a)
or_left true true c = refl
or_left true false true = refl
or_left true false false = refl
or_left false true c = refl
or_left false false true = refl
or_left false false false = refl

own_bit : (bit : Option ℕ) (a m : ℕ)
    → (bit_at (with_bit bit a) m == 1) ≡ ((bit_at a m == 1) || is_bit bit m)
own_bit None a m = or_comm false (bit_at a m == 1)
own_bit (Some k) a m = or_bit a k m

-- what a suggestion reaches beside
ninth_bit : (s : Suggestion) (n m : ℕ)
    → (bit_at (with_ninth s n) m == 1) ≡ ((bit_at n m == 1) || (gives_tobt s && 9 == m))
ninth_bit (Usable tobt) n m = or_bit n 9 m
ninth_bit Nothing n m = or_comm false (bit_at n m == 1)
ninth_bit Unusable n m = or_comm false (bit_at n m == 1)

-- a bit of the reached word is set exactly where an accepted entry of the flight reached it
pub reached-summary : (J : History) (f m : ℕ) → has_reached (record_of J f) m ≡ has_come_to J f m
reached-summary [] f m = ap (λ n. n == 1) (bit_at-zero m)
reached-summary (e ∷ J) f m =
    let s : Suggestion = (effect_on (programs_of J e.command) e f (summary J f)).tobt in
    let ninth : Bool = gives_tobt s && 9 == m in
    elim (is_of f e) as (λ b. (bit_at
    (cond b (added e J f) (beside (ticks e) (migrates e) e.moment (summary J f))).reached m == 1) ≡ ((b && reaches J e f m) || has_come_to J f m)) [
      | true ↦
          ninth_bit s (with_bit (bit_of e.command) (summary J f).reached) m
          ∙ ap (λ b. b || ninth) (own_bit (bit_of e.command) (summary J f).reached m)
          ∙ or_left (has_reached (record_of J f) m) (is_bit (bit_of e.command) m) ninth
          ∙ ap (λ b. (is_bit (bit_of e.command) m || ninth) || b) (reached-summary J f m)
      | false ↦ elim (ticks e) as (λ
          b. (bit_at (beside b (migrates e) e.moment (summary J f)).reached m == 1)
          ≡ has_come_to J f m) [
            | true ↦ reached-summary J f m
            | false ↦ elim (migrates e) as (λ
                b. (bit_at (beside false b e.moment (summary J f)).reached m == 1)
                ≡ has_come_to J f m) [ true ↦ reached-summary J f m | false ↦ reached-summary J f m ]
          ]
    ]
