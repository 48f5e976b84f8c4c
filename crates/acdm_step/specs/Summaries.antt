-- What the whole history says of a flight: its record, and which flights there are (this project's
-- profile).
use Rattle.std.specs.Prelude.{ℕ, ◌^◌, ◌+◌, Bool, true, false, ◌&&◌, ◌||◌, ◌==◌, if◌then◌else◌, List}
use Rattle.std.specs.Prelude.{[], ◌∷◌, ◌++◌, bit_or, Option, Some, None, option_map}
use Rattle.std.specs.List.{list_any}
use Rattle.acdm_record.specs.declared.field.Field.{Field}
use Rattle.acdm_record.specs.declared.field.Field.TheVariants.{Flight, Reached, Alerts, Layout}
use Rattle.acdm_record.specs.declared.field.Field.TheVariants.{Tobt}
use Rattle.acdm_record.specs.declared.field.TextField.{TextField}
use Rattle.acdm_record.specs.Place.{index_of, text_index_of}
use Rattle.acdm_record.specs.Fields.{Fields, fields_of}
use Rattle.acdm_record.specs.Assign.{Assignment, number_is, text_is}
use Rattle.acdm_milestones.specs.declared.milestone.Milestone.TheVariants.{TobtUpdate}
use Rattle.acdm_milestones.specs.Tables.{number}
use Rattle.acdm_alerts.specs.Conditions.{conditions}
use Rattle.acdm_alerts.specs.Decided.{decided_word}
use Rattle.acdm_step.specs.Programs.{Programs, Suggestion, Nothing, Usable, Unusable, Effect}
use Rattle.acdm_step.specs.Programs.{effect}
use Rattle.acdm_step.specs.declared.command.Command.{Command}
use Rattle.acdm_step.specs.declared.entry.Entry.{Entry}
use Rattle.acdm_step.specs.Commands.{History, flight_of, assigned_by, bit_of, told_milestone, is_of, ticks, migrates}
use Rattle.acdm_step.specs.Commands.{created}
use Rattle.acdm_step.specs.InSlots.{programs_of}

-- ---- what the whole history says of a flight

-- all that was assigned, the last first, the bits that were reached, the moment of its last touch
-- (an accepted schedule or report of it, or an accepted tick after its creation), and what programs
-- decided last: whether a TOBT was rejected, and the local alerts
pub record Summary : Type 0 where
  pub assigned : List Assignment
  pub reached : ℕ
  pub touch : Option ℕ
  pub rejected : Bool
  pub locals : ℕ

-- the value that was assigned last, else 0 or the empty text
abbrev pub last_number : List Assignment → Field → ℕ
last_number [] f = 0
last_number (number_is g v ∷ more) f = if index_of g == index_of f then v else last_number more f
last_number (text_is t v ∷ more) f = last_number more f

abbrev pub last_text : List Assignment → TextField → List ℕ
last_text [] t = []
last_text (number_is g v ∷ more) t = last_text more t
last_text (text_is u v ∷ more) t =
    if text_index_of u == text_index_of t then v else last_text more t

-- the layout, which is 1 until a migrate assigns another
abbrev pub last_layout : List Assignment → ℕ
last_layout assigned =
    if last_number assigned Layout == 0 then 1 else last_number assigned Layout

-- the record of flight f with these assignments, reached bits and alert word
abbrev pub number_with : ℕ → List Assignment → ℕ → ℕ → Field → ℕ
number_with f assigned reached alerts Flight = f
number_with f assigned reached alerts Layout = last_layout assigned
number_with f assigned reached alerts Reached = reached
number_with f assigned reached alerts Alerts = alerts
number_with f assigned reached alerts name = last_number assigned name

abbrev pub record_with : ℕ → List Assignment → ℕ → ℕ → Fields
record_with f assigned reached alerts =
    fields_of (number_with f assigned reached alerts) (last_text assigned)

-- its alerts: what programs decided, and the conditions at the moment of its last touch
abbrev pub computed_at : ℕ → List Assignment → ℕ → Option ℕ → ℕ
computed_at f assigned reached None = 0
computed_at f assigned reached (Some moment) = conditions (record_with f assigned reached 0) moment

abbrev pub alerts_from : ℕ → Summary → ℕ
alerts_from f t = decided_word t.rejected t.locals + computed_at f t.assigned t.reached t.touch

abbrev pub record_from : ℕ → Summary → Fields
record_from f t = record_with f t.assigned t.reached (alerts_from f t)

-- new assignments before earlier ones, the last of them first
abbrev pub onto : List Assignment → List Assignment → List Assignment
onto [] earlier = earlier
onto (a ∷ more) earlier = onto more (a ∷ earlier)

-- a reached word with one bit more, if any, and whether that is this one
abbrev pub with_bit : Option ℕ → ℕ → ℕ
with_bit None before = before
with_bit (Some m) before = bit_or before (2 ^ m)

abbrev pub is_bit : Option ℕ → ℕ → Bool
is_bit None m = false
is_bit (Some n) m = n == m

-- what a command assigns and reaches, while the alerts are still those before it
abbrev pub run_record : ℕ → Command → Summary → Fields
run_record f c t = record_with f (onto (assigned_by c) t.assigned) (with_bit (bit_of c) t.reached)
    (alerts_from f t)

-- what programs say of that
abbrev pub effect_on : Programs → Entry → ℕ → Summary → Effect
effect_on ps e f t = effect ps (run_record f e.command t) e.moment (told_milestone e.command) e.answers

-- a TOBT that a program gave is assigned too, and reaches milestone 9
abbrev pub with_tobt : Suggestion → List Assignment → List Assignment
with_tobt (Usable tobt) assigned = number_is Tobt tobt ∷ assigned
with_tobt _ assigned = assigned

abbrev pub with_ninth : Suggestion → ℕ → ℕ
with_ninth (Usable tobt) reached = bit_or reached (2 ^ number TobtUpdate)
with_ninth _ reached = reached

abbrev pub rejects : Suggestion → Bool → Bool
rejects Nothing before = before
rejects (Usable tobt) before = false
rejects Unusable before = true

abbrev pub number_or : Option ℕ → ℕ → ℕ
number_or None before = before
number_or (Some n) before = n

-- what an accepted command of the flight adds at its moment, with what programs said
abbrev pub with_command : Command → ℕ → Effect → Summary → Summary
with_command c moment s t = record {
  assigned = with_tobt s.tobt (onto (assigned_by c) t.assigned);
  reached = with_ninth s.tobt (with_bit (bit_of c) t.reached);
  touch = Some moment;
  rejected = rejects s.tobt t.rejected;
  locals = number_or s.locals t.locals;
}

-- a tick touches a flight that was touched before, by its creation
abbrev pub with_tick : ℕ → Summary → Summary
with_tick moment t = record t { touch = option_map (λ m. moment) t.touch }

-- a migrate assigns layout 2 to each flight, and to those that are created later
abbrev pub with_migrate : Summary → Summary
with_migrate t = record t { assigned = number_is Layout 2 ∷ t.assigned }

-- what one entry adds, with the programs that stood when it came; a refused entry, or one of
-- another flight, adds nothing
abbrev pub summary_after : Programs → Entry → ℕ → Summary → Summary
summary_after ps e f t = if is_of f e then with_command e.command e.moment (effect_on ps e f t) t
    else (if ticks e then with_tick e.moment t else (if migrates e then with_migrate t else t))

abbrev pub empty_summary : Summary
empty_summary = record { assigned = []; reached = 0; touch = None; rejected = false; locals = 0 }

abbrev pub summary : History → ℕ → Summary
summary [] f = empty_summary
summary (e ∷ J) f = summary_after (programs_of J e.command) e f (summary J f)

-- the record that the programs of a command run on
abbrev pub run_record_of : History → Command → Fields
run_record_of J c = run_record (flight_of c) c (summary J (flight_of c))

-- the record of a flight
abbrev pub record_of : History → ℕ → Fields
record_of J f = record_from f (summary J f)

-- whether a program gave a TOBT
abbrev pub gives_tobt : Suggestion → Bool
gives_tobt (Usable tobt) = true
gives_tobt _ = false

-- the bits that an accepted entry of the flight reached: its own, and 9 where a program gave a TOBT
abbrev pub reaches : History → Entry → ℕ → ℕ → Bool
reaches J e f m = is_bit (bit_of e.command) m
    || (gives_tobt (effect_on (programs_of J e.command) e f (summary J f)).tobt && number TobtUpdate
    == m)

-- whether an accepted entry of the flight reached this bit: what a bit of the reached word means
abbrev pub has_come_to : History → ℕ → ℕ → Bool
has_come_to [] f m = false
has_come_to (e ∷ J) f m = (is_of f e && reaches J e f m) || has_come_to J f m

-- ---- the flights

-- the flights in order of creation
abbrev pub with_flight : List ℕ → Option ℕ → List ℕ
with_flight fs None = fs
with_flight fs (Some f) = if list_any (λ g. g == f) fs then fs else fs ++ f ∷ []

abbrev pub flights : History → List ℕ
flights [] = []
flights (e ∷ J) = with_flight (flights J) (created e)

abbrev pub exists : History → ℕ → Bool
exists J f = list_any (λ g. g == f) (flights J)
