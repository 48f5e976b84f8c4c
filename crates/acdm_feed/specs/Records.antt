-- The record of a flight as an object.
use Rattle.std.specs.Prelude.{ℕ, ◌==◌, if◌then◌else◌, List, [], ◌∷◌, ◌++◌, codes}
use Rattle.std.specs.List.{flat_map}
use Rattle.std.specs.Fmt.{decimal}
use Rattle.json.specs.Token.{Token, number, string}
use Rattle.acdm_record.specs.declared.field.Field.TheVariants.{Flight, Alerts, Mttt, Exot}
use Rattle.acdm_record.specs.declared.field.Field.TheVariants.{Stand, Layout, Exit}
use Rattle.acdm_record.specs.declared.field.Field.TheVariants.{Sobt, Eobt, Ctot, Otot, Eldt, Aldt, Aibt, Acgt}
use Rattle.acdm_record.specs.declared.field.Field.TheVariants.{Tobt, Tsat, Asbt, Ardt, Asrt, Asat, Aobt, Atot}
use Rattle.acdm_record.specs.declared.field.Field.TheVariants.{Eczt, Eezt, Aczt, Aezt}
use Rattle.acdm_record.specs.declared.field.TextField.TheVariants.{Callsign, ScheduledType}
use Rattle.acdm_record.specs.declared.field.TextField.TheVariants.{PlanType, PlanRegistration}
use Rattle.acdm_record.specs.declared.field.TextField.TheVariants.{ScheduledRegistration}
use Rattle.acdm_record.specs.declared.field.TextField.TheVariants.{ScheduledDestination}
use Rattle.acdm_record.specs.declared.field.TextField.TheVariants.{PlanDestination}
use Rattle.acdm_record.specs.Fields.{Fields, number_of, text_of}
use Rattle.acdm_milestones.specs.Tables.{has_reached}
use Rattle.acdm_alerts.specs.Names.{has_bit, name_of}
use Rattle.acdm_feed.specs.Names.{number_member, text_member, time_member, list_member, object_of}

-- the number of a milestone that was reached, 0 for the schedule
abbrev pub reached_token : Fields → ℕ → List Token
reached_token r bit = if has_reached r bit then number (decimal bit) ∷ [] else []

-- the name of an alert that it has
abbrev pub alert_token : ℕ → ℕ → List Token
alert_token word bit = if has_bit word bit then string (name_of bit) ∷ [] else []

abbrev pub milestones : List ℕ
milestones = 0 ∷ 1 ∷ 2 ∷ 3 ∷ 4 ∷ 5 ∷ 6 ∷ 7 ∷ 8 ∷ 9 ∷ 10 ∷ 11 ∷ 12 ∷ 13 ∷ 14 ∷ 15 ∷ 16 ∷ []

-- the bits that have names
abbrev pub alert_bits : List ℕ
alert_bits = 1 ∷ 2 ∷ 3 ∷ 4 ∷ 5 ∷ 7 ∷ 8 ∷ 9 ∷ 10 ∷ 11 ∷ 12 ∷ 13 ∷ 14 ∷ 15 ∷ 16 ∷ 17 ∷ 18 ∷ 19 ∷ 20 ∷ 21 ∷ 22 ∷ 23 ∷ 24 ∷ 25 ∷ 26 ∷ 27 ∷ 28 ∷ 29 ∷ 30 ∷ 31 ∷ []

unfoldable pub named_members : Fields → List Token
named_members r = number_member (codes "flight") (number_of r Flight)
    ++ (text_member (codes "callsign") (text_of r Callsign)
    ++ (text_member (codes "scheduled_type") (text_of r ScheduledType)
    ++ (text_member (codes "plan_type") (text_of r PlanType))))

unfoldable pub registrations : Fields → List Token
registrations r = text_member (codes "scheduled_reg") (text_of r ScheduledRegistration)
    ++ text_member (codes "plan_reg") (text_of r PlanRegistration)

unfoldable pub destinations : Fields → List Token
destinations r = text_member (codes "scheduled_dest") (text_of r ScheduledDestination)
    ++ text_member (codes "plan_dest") (text_of r PlanDestination)

abbrev pub bound_members : Fields → List Token
bound_members r = registrations r ++ destinations r

unfoldable pub scheduled_times : Fields → List Token
scheduled_times r = time_member (codes "sobt") (number_of r Sobt)
    ++ (time_member (codes "eobt") (number_of r Eobt)
    ++ (time_member (codes "ctot") (number_of r Ctot)
    ++ (time_member (codes "otot") (number_of r Otot))))

unfoldable pub arrival_times : Fields → List Token
arrival_times r = time_member (codes "eldt") (number_of r Eldt)
    ++ (time_member (codes "aldt") (number_of r Aldt)
    ++ (time_member (codes "aibt") (number_of r Aibt)
    ++ (time_member (codes "acgt") (number_of r Acgt))))

unfoldable pub target_times : Fields → List Token
target_times r = time_member (codes "tobt") (number_of r Tobt)
    ++ (time_member (codes "tsat") (number_of r Tsat)
    ++ (time_member (codes "asbt") (number_of r Asbt)
    ++ (time_member (codes "ardt") (number_of r Ardt))))

unfoldable pub departure_times : Fields → List Token
departure_times r = time_member (codes "asrt") (number_of r Asrt)
    ++ (time_member (codes "asat") (number_of r Asat)
    ++ (time_member (codes "aobt") (number_of r Aobt)
    ++ (time_member (codes "atot") (number_of r Atot))))

unfoldable pub all_times : Fields → List Token
all_times r = scheduled_times r
    ++ (arrival_times r
    ++ (target_times r
    ++ (departure_times r)))

unfoldable pub stand_members : Fields → List Token
stand_members r = number_member (codes "mttt") (number_of r Mttt)
    ++ (number_member (codes "exit") (number_of r Exit)
    ++ (number_member (codes "exot") (number_of r Exot)
    ++ (number_member (codes "stand") (number_of r Stand))))

unfoldable pub reached_member : Fields → List Token
reached_member r = list_member (codes "reached") (flat_map (reached_token r) milestones)

unfoldable pub alerts_member : Fields → List Token
alerts_member r = list_member (codes "alerts") (flat_map (alert_token (number_of r Alerts)) alert_bits)

abbrev pub deicing_times : Fields → List Token
deicing_times r = time_member (codes "eczt") (number_of r Eczt)
    ++ (time_member (codes "eezt") (number_of r Eezt)
    ++ (time_member (codes "aczt") (number_of r Aczt)
    ++ (time_member (codes "aezt") (number_of r Aezt))))

-- layout 2 has the times of de-icing
unfoldable pub deicing_members : Fields → List Token
deicing_members r = if number_of r Layout == 2 then deicing_times r else []

unfoldable pub stood_members : Fields → List Token
stood_members r = stand_members r ++ (reached_member r ++ alerts_member r)

-- the names are those of the record, in short
unfoldable pub record_members : Fields → List Token
record_members r = named_members r
    ++ (bound_members r
    ++ (all_times r
    ++ (stood_members r
    ++ (deicing_members r))))

abbrev pub record_tokens : Fields → List Token
record_tokens r = object_of (record_members r)
