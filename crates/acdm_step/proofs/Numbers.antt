-- A change of a record leaves its flight's number and its layout.
use Rattle.std.proofs.Common.{◌≡◌, ◌≢◌, ℕ, ◌<◌, ◌≤◌, Bool, true, false, cond, not, ◌&&◌, nat_lt, List}
use Rattle.std.proofs.Common.{[], ◌∷◌, length, get_or, Option, Some, None, refl, sym, ap, ◌∙◌}
use Rattle.std.proofs.Common.{arith}
use Rattle.std.proofs.lemmas.List.{get_or_past, get_or_default, get_or-set_other}
use Rattle.std.proofs.lemmas.List.Sums.{prefix_len-le-length}
use Rattle.std.proofs.lemmas.Bool.Decides.{nat_tests}
use Rattle.std.specs.Cmp.{first_so, second_so}
use Rattle.acdm_record.specs.declared.field.Field.{Field}
use Rattle.acdm_record.specs.declared.field.Field.TheVariants.{Flight, Alerts, Reached, Layout, Tobt}
use Rattle.acdm_record.specs.Fields.{Fields, number_of, set_number, length_of}
use Rattle.acdm_record.specs.Fields.{bytes_in_layout}
use Rattle.acdm_record.specs.Place.{index_of}
use Rattle.acdm_record.specs.Assign.{Assignment, number_is, text_is, with_all}
use Rattle.acdm_alerts.specs.Conditions.{alert_word}
use Rattle.acdm_milestones.specs.Tables.{marked, marked_by}
use Rattle.acdm_milestones.specs.declared.role.Role.{Role}
use Rattle.bpf_helpers.specs.Oracles.{OracleView}
use Rattle.acdm_step.specs.Programs.{Programs, Suggestion, Nothing, Usable, Unusable, Effect}
use Rattle.acdm_step.specs.Programs.{with_suggestion, with_local_alerts, with_effect}
use Rattle.acdm_milestones.specs.declared.refusal.Refusal.{Refusal}
use Rattle.acdm_milestones.specs.declared.refusal.Refusal.TheVariants.{NotOwner, UnknownFlight}
use Rattle.acdm_milestones.specs.declared.role.Action.TheVariants as actions
use Rattle.acdm_milestones.specs.Tables.{owns}
use Rattle.acdm_milestones.specs.declared.refusal.Refusal.TheVariants.{AlreadyPlanned, FullBoard}
use Rattle.acdm_step.specs.declared.entry.Verdict.{Verdict}
use Rattle.acdm_step.specs.declared.entry.Verdict.TheVariants.{Accepted, Refused}
use Rattle.acdm_step.specs.declared.command.Command.{Command}
use Rattle.acdm_step.specs.declared.command.Command.TheVariants.{Schedule, Report, Deice}
use Rattle.acdm_step.specs.Commands.{assigned_by, bit_of, is_accepted, changes_flight}
use Rattle.acdm_step.specs.Verdicts.{verdict_for, unless_refused}
use Rattle.acdm_step.specs.History.{Board}
use Rattle.acdm_step.specs.Board.{assigned_to, begun, touched, has_number, place_of, record_on}
use Rattle.acdm_step.specs.Running.{ChangesTo}
use Rattle.acdm_step.specs.Marked.{Keeps}
use Rattle.acdm_step.proofs.Records.{is_plain, are_plain, plain_command}
use Rattle.acdm_step.specs.declared.verdicts.TheConstants.{MOST_FLIGHTS}

-- a name that no command assigns, and that is neither of the two words
module _ (k : Field) (no_plain : (g : Field) → is_plain g ≡ true → index_of k ≢ index_of g)
    (no_reached : index_of k ≢ index_of Reached) (no_alerts : index_of k ≢ index_of Alerts) where
  set_other : (r : Fields) (g : Field) (v : ℕ) → index_of k ≢ index_of g
      → number_of (set_number r g v) k ≡ number_of r k
  set_other r g v ne = get_or-set_other r.numbers (index_of g) (index_of k) v 0 ne

  all_plain : (r : Fields) (xs : List Assignment) → are_plain xs ≡ true
      → number_of (with_all r xs) k ≡ number_of r k
  all_plain r [] h = refl
  all_plain r (number_is g v ∷ more) h =
      all_plain (set_number r g v) more (second_so (is_plain g) (are_plain more) h)
      ∙ set_other r g v (no_plain g (first_so (is_plain g) (are_plain more) h))
  all_plain r (text_is t v ∷ more) h = all_plain _ more h

  suggested : (s : Suggestion) (r : Fields) → number_of (with_suggestion s r) k ≡ number_of r k
  suggested Nothing r = refl
  suggested (Usable tobt) r = set_other (marked (set_number r Tobt tobt) 9) Alerts _ no_alerts
      ∙ set_other (set_number r Tobt tobt) Reached _ no_reached
      ∙ set_other r Tobt tobt (no_plain Tobt refl)
  suggested Unusable r = set_other r Alerts _ no_alerts

  local : (o : Option ℕ) (r : Fields) → number_of (with_local_alerts o r) k ≡ number_of r k
  local None r = refl
  local (Some l) r = set_other r Alerts _ no_alerts

  marked_kept : (r : Fields) (bit : Option ℕ) → number_of (marked_by r bit) k ≡ number_of r k
  marked_kept r None = refl
  marked_kept r (Some m) = set_other r Reached _ no_reached

  assigned : (r : Fields) (c : Command) → number_of (assigned_to r c) k ≡ number_of r k
  assigned r c = marked_kept (with_all r (assigned_by c)) (bit_of c)
      ∙ all_plain r (assigned_by c) (plain_command c)

  touched-kept : (r : Fields) (moment : ℕ) → number_of (touched moment r) k ≡ number_of r k
  touched-kept r moment = set_other r Alerts (alert_word r moment) no_alerts

  changed : (s : Effect) (r : Fields) (moment : ℕ) (c : Command)
      → number_of (touched moment (with_effect s (assigned_to r c))) k ≡ number_of r k
  changed s r moment c =
      let a : Fields = assigned_to r c in
      touched-kept (with_effect s a) moment
      ∙ local s.locals (with_suggestion s.tobt a) ∙ suggested s.tobt a ∙ assigned r c

no_plain_flight : (g : Field) → is_plain g ≡ true → index_of Flight ≢ index_of g
no_plain_flight Flight h = absurd (cc)
no_plain_flight g h = omega arith

no_plain_layout : (g : Field) → is_plain g ≡ true → index_of Layout ≢ index_of g
no_plain_layout Layout h = absurd (cc)
no_plain_layout g h = omega arith

abbrev number : Fields → ℕ
number r = number_of r Flight

pub number-changed : (s : Effect) (r : Fields) (moment : ℕ) (c : Command)
    → number (touched moment (with_effect s (assigned_to r c))) ≡ number r
number-changed = changed Flight no_plain_flight (omega arith) (omega arith)

-- and so does its layout, and with it its length
pub length-changed : (s : Effect) (r : Fields) (moment : ℕ) (c : Command)
    → length_of (touched moment (with_effect s (assigned_to r c))) ≡ length_of r
length-changed s r moment c =
    ap bytes_in_layout (changed Layout no_plain_layout (omega arith) (omega arith) s r moment c)

pub length-touched : (r : Fields) (moment : ℕ) → length_of (touched moment r) ≡ length_of r
length-touched r moment =
    ap bytes_in_layout (touched-kept Layout no_plain_layout (omega arith) (omega arith) r moment)

module _ (b : Board) (ps : Programs) (moment : ℕ) (c : Command) (from to : OracleView)
    (flight place : ℕ) (r s : Fields) (at : place ≡ place_of b.records flight)
    (is : r ≡ record_on b flight)
    (h : ChangesTo ps r moment c from to s) where
  same_number : number s ≡ number (record_on b flight)
  same_number = ap number h.4 ∙ number-changed h.1 r moment c ∙ ap number is

  abbrev first : Fields
  first = begun b.slots.record_length flight

  at_end : length b.records ≤ place → place_of b.records flight ≡ length b.records
  at_end outside = omega (
    arith,
    at,
    outside,
    prefix_len-le-length (λ x. not (has_number flight x)) b.records,
  )

  pub change_as_long : length_of s ≡ length_of (record_on b flight)
  change_as_long = ap length_of h.4 ∙ length-changed h.1 r moment c ∙ ap length_of is

  pub change_keeps : place < length b.records → Keeps b.records place s
  change_keeps inside = same_number ∙ ap (λ n. number (get_or b.records n first)) (sym at)
      ∙ ap number (get_or_default b.records place first s inside)

  pub change_is_new : length b.records ≤ place → place_of b.records (number s) ≡ length b.records
  change_is_new outside = ap (place_of b.records) (same_number
      ∙ ap (λ n. number (get_or b.records n first)) (sym at)
      ∙ ap number (get_or_past b.records place first outside)) ∙ at_end outside

-- a command that creates a flight is accepted where there is room for it
room_of_schedule : (a b n : Bool)
    → is_accepted (cond (not a) (Refused NotOwner)
    (cond b (Refused AlreadyPlanned) (cond (not false && not n) (Refused FullBoard) Accepted)))
    ≡ true → n ≡ true
room_of_schedule a b true h = refl
room_of_schedule true true false h = absurd (cc)
room_of_schedule true false false h = absurd (cc)
room_of_schedule false b false h = absurd (cc)

room_of_report : (a b n : Bool) (rest : Verdict)
    → is_accepted (cond (not a) (Refused NotOwner)
    (cond (not false && not b) (Refused UnknownFlight)
    (cond (not false && not n) (Refused FullBoard) rest))) ≡ true → n ≡ true
room_of_report a b true rest h = refl
room_of_report true true false rest h = absurd (cc)
room_of_report true false false rest h = absurd (cc)
room_of_report false b false rest h = absurd (cc)

below : (count : ℕ) → nat_lt count MOST_FLIGHTS ≡ true → count < MOST_FLIGHTS
below count h = grind (arith, nat_tests)

pub true_false : true ≡ false → ⊥
true_false h = absurd (cc)

-- a time of de-icing is of a flight that is there
pub none_deiced : (own : Bool) (against : Option Refusal)
    → is_accepted (cond (not own) (Refused NotOwner)
    (unless_refused against (Refused UnknownFlight))) ≡ false
none_deiced false against = refl
none_deiced true None = refl
none_deiced true (Some x) = refl

pub room_left : (c : Command) (count : ℕ) (r : Fields) (against : Option Refusal) (role : Role)
    → changes_flight c ≡ true → is_accepted (verdict_for false count r against role c) ≡ true
    → count < MOST_FLIGHTS
room_left (Schedule s) count r against role k h =
    below count (room_of_schedule _ _ (nat_lt count MOST_FLIGHTS) h)
room_left (Report p) count r against role k h =
    below count (room_of_report _ _ (nat_lt count MOST_FLIGHTS) _ h)
room_left (Deice d) count r against role k h =
    absurd (true_false (sym h ∙ none_deiced (owns role actions.Deice) against))
room_left _ count r against role k h = absurd (cc)
