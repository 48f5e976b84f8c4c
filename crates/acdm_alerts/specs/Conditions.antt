-- When a flight has an alert (this project's profile, over the list of alerts of A-CDM airports).
-- All sums are whole numbers, and never wrap.
use Rattle.std.specs.Prelude.{ℕ, ◌+◌, ◌*◌, ◌/◌, ◌%◌, ◌^◌, Bool, false, ◌||◌, ◌&&◌, not, nat_le}
use Rattle.std.specs.Prelude.{nat_lt, if◌then◌else◌, List, [], ◌∷◌, Option, Some, None}
use Rattle.std.specs.Str.{bytes_eq}
use Rattle.acdm_record.specs.declared.field.Field.{Field}
use Rattle.acdm_record.specs.declared.field.Field.TheVariants.{Alerts, Mttt, Exit, Sobt, Eobt, Eldt}
use Rattle.acdm_record.specs.declared.field.Field.TheVariants.{Aldt, Aibt, Tobt, Tsat, Asbt, Asat}
use Rattle.acdm_record.specs.declared.field.Field.TheVariants.{Aobt}
use Rattle.acdm_record.specs.declared.field.TextField.{TextField}
use Rattle.acdm_record.specs.declared.field.TextField.TheVariants.{ScheduledType, PlanType}
use Rattle.acdm_record.specs.declared.field.TextField.TheVariants.{ScheduledRegistration}
use Rattle.acdm_record.specs.declared.field.TextField.TheVariants.{PlanRegistration}
use Rattle.acdm_record.specs.declared.field.TextField.TheVariants.{ScheduledDestination}
use Rattle.acdm_record.specs.declared.field.TextField.TheVariants.{PlanDestination}
use Rattle.acdm_record.specs.Fields.{Fields, number_of, text_of}
use Rattle.acdm_milestones.specs.declared.milestone.Milestone.TheVariants.{TobtUpdate}
use Rattle.acdm_milestones.specs.Tables.{number, has_reached, is_set}

-- the estimated in-block time: AIBT, else ALDT or else ELDT with the taxi-in time
abbrev pub eibt : Fields → Option ℕ
eibt r =
    if is_set r Aibt then Some (number_of r Aibt)
    else (if is_set r Aldt then Some (number_of r Aldt + number_of r Exit)
    else (if is_set r Eldt then Some (number_of r Eldt + number_of r Exit)
    else None))

abbrev pub exceeds : Option ℕ → ℕ → ℕ → Bool
exceeds None more limit = false
exceeds (Some n) more limit = nat_lt limit (n + more)

-- CDM07 for EOBT, CDM07a for TOBT: the turn-round ends after a time that is set
abbrev pub turns_after : Fields → Field → Bool
turns_after r f = is_set r f && exceeds (eibt r) (number_of r Mttt) (number_of r f)

-- CDM02, CDM08, CDM12: two times that are set differ by more than so many minutes
abbrev pub differ_by : ℕ → Fields → Field → Field → Bool
differ_by n r f g = is_set r f
    && (is_set r g && (nat_lt (number_of r f + n) (number_of r g)
    || nat_lt (number_of r g + n) (number_of r f)))

-- CDM03, CDM04, CDM05: scheduled and planned, and two texts differ
abbrev pub texts_differ : Fields → TextField → TextField → Bool
texts_differ r t u = has_reached r 0
    && (has_reached r 1 && not (bytes_eq (text_of r t) (text_of r u)))

-- CDM01: no airport slot
abbrev pub no_airport_slot : Fields → Bool
no_airport_slot r = has_reached r 1 && not (has_reached r 0)

-- CDM09: boarding not started
abbrev pub boarding_not_started : Fields → ℕ → Bool
boarding_not_started r moment =
    is_set r Tobt && (not (is_set r Asbt)
    && (not (is_set r Aobt) && nat_le (number_of r Tobt) (moment + 10)))

-- CDM10: TOBT rejected or deleted
abbrev pub tobt_deleted : Fields → Bool
tobt_deleted r = has_reached r (number TobtUpdate) && not (is_set r Tobt)

-- CDM11: not compliant with TOBT or TSAT
abbrev pub tsat_passed : Fields → ℕ → Bool
tsat_passed r moment = is_set r Tsat
    && (not (is_set r Asat) && nat_lt (number_of r Tsat + 5) moment)

-- CDM13: no flight plan
abbrev pub no_flight_plan : Fields → ℕ → Bool
no_flight_plan r moment = has_reached r 0
    && (not (has_reached r 1) && nat_le (number_of r Sobt) (moment + 180))

-- the bit of an alert, where it holds
abbrev pub bit_if : Bool → ℕ → ℕ
bit_if b n = if b then 2 ^ n else 0

-- the alerts that are computed, CDM01 to CDM05, CDM07 to CDM13 and CDM07a: the bit of each, in
-- rising order, and whether it holds
abbrev pub computed_alerts : Fields → ℕ → List (ℕ × Bool)
computed_alerts r moment =
    (1, no_airport_slot r)  -- CDM01
    ∷ (2, differ_by 0 r Sobt Eobt)  -- CDM02
    ∷ (3, texts_differ r ScheduledType PlanType)  -- CDM03
    ∷ (4, texts_differ r ScheduledRegistration PlanRegistration)  -- CDM04
    ∷ (5, texts_differ r ScheduledDestination PlanDestination)  -- CDM05
    ∷ (7, turns_after r Eobt)  -- CDM07
    ∷ (8, differ_by 15 r Tobt Eobt)  -- CDM08
    ∷ (9, boarding_not_started r moment)  -- CDM09
    ∷ (10, tobt_deleted r)  -- CDM10
    ∷ (11, tsat_passed r moment)  -- CDM11
    ∷ (12, differ_by 5 r Asat Tsat)  -- CDM12
    ∷ (13, no_flight_plan r moment)  -- CDM13
    ∷ (15, turns_after r Tobt)  -- CDM07a
    ∷ []

-- a word, and the bits of those alerts of a table that hold
abbrev pub sum_from : ℕ → List (ℕ × Bool) → ℕ
sum_from word [] = word
sum_from word (alert ∷ more) = sum_from (word + bit_if alert.1 alert.0) more

abbrev pub conditions : Fields → ℕ → ℕ
conditions r moment = sum_from 0 (computed_alerts r moment)

-- what only local programs set and clear: bit 14 (CDM14) and the bits from 16 on
abbrev pub kept_bits : ℕ → ℕ
kept_bits word = word / 65536 * 65536 + word / 16384 % 2 * 16384

-- the alert word of a record at a moment
abbrev pub alert_word : Fields → ℕ → ℕ
alert_word r moment = kept_bits (number_of r Alerts) + conditions r moment
