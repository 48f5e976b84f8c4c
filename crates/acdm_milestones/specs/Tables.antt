-- The tables of the milestones (this project's profile over the sixteen milestones of the A-CDM
-- manual): who reports each, what its time sets, what it needs, and what bars it.
use Rattle.std.specs.Prelude.{ℕ, ◌^◌, Bool, true, ◌||◌, ◌&&◌, ◌==◌, not, nat_le, if◌then◌else◌}
use Rattle.std.specs.Prelude.{List, [], ◌∷◌, bit_or, Option, Some, None, Result, Ok, Err, find}
use Rattle.std.specs.List.{list_all}
use Rattle.std.specs.Int.{bit_at}
use Rattle.acdm_record.specs.declared.field.Field.{Field}
use Rattle.acdm_record.specs.declared.field.Field.TheVariants.{Reached, Eobt, Ctot, Otot, Eldt}
use Rattle.acdm_record.specs.declared.field.Field.TheVariants.{Aldt, Aibt, Acgt, Tobt, Tsat, Asbt}
use Rattle.acdm_record.specs.declared.field.Field.TheVariants.{Ardt, Asrt, Asat, Aobt, Atot}
use Rattle.acdm_record.specs.Fields.{Fields, number_of, set_number}
use Rattle.acdm_record.specs.Assign.{Assignment, number_is, with_all}
use Rattle.acdm_milestones.specs.declared.role.Role.{Role}
use Rattle.acdm_milestones.specs.declared.role.Role.TheVariants.{NetworkManager, AirTrafficControl}
use Rattle.acdm_milestones.specs.declared.role.Role.TheVariants.{AirportOperator, AircraftOperator}
use Rattle.acdm_milestones.specs.declared.role.Role.TheVariants.{GroundHandler, DeicingCompany}
use Rattle.acdm_milestones.specs.declared.role.Action.{Action}
use Rattle.acdm_milestones.specs.declared.role.Action.TheVariants.{Report, Schedule, Load, Unload}
use Rattle.acdm_milestones.specs.declared.role.Action.TheVariants.{Tick, Show, Alerts, Migrate, Deice}
use Rattle.acdm_milestones.specs.declared.milestone.Milestone.{Milestone}
use Rattle.acdm_milestones.specs.declared.milestone.Milestone.TheVariants.{FlightPlanActivated}
use Rattle.acdm_milestones.specs.declared.milestone.Milestone.TheVariants.{TwoHoursBeforeEobt}
use Rattle.acdm_milestones.specs.declared.milestone.Milestone.TheVariants.{TakeOffFromOutstation}
use Rattle.acdm_milestones.specs.declared.milestone.Milestone.TheVariants.{LocalRadarUpdate}
use Rattle.acdm_milestones.specs.declared.milestone.Milestone.TheVariants.{FinalApproach, Landed}
use Rattle.acdm_milestones.specs.declared.milestone.Milestone.TheVariants.{InBlock}
use Rattle.acdm_milestones.specs.declared.milestone.Milestone.TheVariants.{GroundHandlingStarts}
use Rattle.acdm_milestones.specs.declared.milestone.Milestone.TheVariants.{TobtUpdate, TsatIssue}
use Rattle.acdm_milestones.specs.declared.milestone.Milestone.TheVariants.{BoardingStarts}
use Rattle.acdm_milestones.specs.declared.milestone.Milestone.TheVariants.{AircraftReady}
use Rattle.acdm_milestones.specs.declared.milestone.Milestone.TheVariants.{StartUpRequest}
use Rattle.acdm_milestones.specs.declared.milestone.Milestone.TheVariants.{StartUpApproved}
use Rattle.acdm_milestones.specs.declared.milestone.Milestone.TheVariants.{OffBlock, TakeOff}
use Rattle.acdm_milestones.specs.declared.refusal.Refusal.{Refusal}
use Rattle.acdm_milestones.specs.declared.refusal.Refusal.TheVariants.{NotOwner, MissingMilestone}
use Rattle.acdm_milestones.specs.declared.refusal.Refusal.TheVariants.{Barred, NotSet, TimeOrder}

-- the number of a milestone, which is its bit in the reached word
abbrev pub number : Milestone → ℕ
number FlightPlanActivated = 1
number TwoHoursBeforeEobt = 2
number TakeOffFromOutstation = 3
number LocalRadarUpdate = 4
number FinalApproach = 5
number Landed = 6
number InBlock = 7
number GroundHandlingStarts = 8
number TobtUpdate = 9
number TsatIssue = 10
number BoardingStarts = 11
number AircraftReady = 12
number StartUpRequest = 13
number StartUpApproved = 14
number OffBlock = 15
number TakeOff = 16

-- all milestones, and the one of a number
abbrev pub milestones : List Milestone
milestones =
    FlightPlanActivated ∷ TwoHoursBeforeEobt ∷ TakeOffFromOutstation ∷ LocalRadarUpdate
    ∷ FinalApproach ∷ Landed ∷ InBlock ∷ GroundHandlingStarts
    ∷ TobtUpdate ∷ TsatIssue ∷ BoardingStarts ∷ AircraftReady ∷ StartUpRequest ∷ StartUpApproved
    ∷ OffBlock ∷ TakeOff ∷ []

abbrev pub milestone_numbered : ℕ → Option Milestone
milestone_numbered n = find (λ m. n == number m) milestones

-- the roles are told apart by a number
abbrev role_index : Role → ℕ
role_index NetworkManager = 0
role_index AirTrafficControl = 1
role_index AirportOperator = 2
role_index AircraftOperator = 3
role_index GroundHandler = 4
role_index DeicingCompany = 5

abbrev pub is_role : Role → Role → Bool
is_role a b = role_index a == role_index b

-- who reports a milestone
abbrev pub reports : Role → Milestone → Bool
reports r FlightPlanActivated = is_role r NetworkManager
reports r TwoHoursBeforeEobt = is_role r NetworkManager
reports r TakeOffFromOutstation = is_role r NetworkManager
reports r LocalRadarUpdate = is_role r AirTrafficControl
reports r FinalApproach = is_role r AirTrafficControl
reports r Landed = is_role r AirTrafficControl
reports r InBlock = is_role r AirportOperator
reports r GroundHandlingStarts = is_role r GroundHandler
reports r TobtUpdate = is_role r AircraftOperator || is_role r GroundHandler
reports r TsatIssue = is_role r AirTrafficControl
reports r BoardingStarts = is_role r AircraftOperator || is_role r GroundHandler
reports r AircraftReady = is_role r AircraftOperator || is_role r GroundHandler
reports r StartUpRequest = is_role r AirTrafficControl
reports r StartUpApproved = is_role r AirTrafficControl
reports r OffBlock = is_role r AirportOperator || is_role r AirTrafficControl
reports r TakeOff = is_role r AirTrafficControl

-- who owns an action: questions belong to everyone
abbrev pub owns : Role → Action → Bool
owns r (Report m) = reports r m
owns r Schedule = is_role r AirportOperator
owns r Load = is_role r AirportOperator
owns r Unload = is_role r AirportOperator
owns r Tick = is_role r AirportOperator
owns r Migrate = is_role r AirportOperator
owns r Deice = is_role r DeicingCompany
owns r Show = true
owns r Alerts = true

-- the field that a milestone's time sets
abbrev pub time_field : Milestone → Field
time_field FlightPlanActivated = Eobt
time_field TwoHoursBeforeEobt = Ctot
time_field TakeOffFromOutstation = Otot
time_field LocalRadarUpdate = Eldt
time_field FinalApproach = Eldt
time_field Landed = Aldt
time_field InBlock = Aibt
time_field GroundHandlingStarts = Acgt
time_field TobtUpdate = Tobt
time_field TsatIssue = Tsat
time_field BoardingStarts = Asbt
time_field AircraftReady = Ardt
time_field StartUpRequest = Asrt
time_field StartUpApproved = Asat
time_field OffBlock = Aobt
time_field TakeOff = Atot

-- all that a report's time sets: a TOBT update without a time clears TSAT too
abbrev pub times_of : Milestone → ℕ → List Assignment
times_of TobtUpdate time = number_is Tobt time ∷ (if time == 0 then number_is Tsat 0 ∷ [] else [])
times_of m time = number_is (time_field m) time ∷ []

-- the milestones that must have been reached
abbrev pub needs : Milestone → List ℕ
needs FlightPlanActivated = []
needs InBlock = 1 ∷ 6 ∷ []
needs GroundHandlingStarts = 1 ∷ 7 ∷ []
needs StartUpRequest = 1 ∷ 10 ∷ []
needs StartUpApproved = 1 ∷ 10 ∷ 13 ∷ []
needs OffBlock = 1 ∷ 14 ∷ []
needs TakeOff = 1 ∷ 15 ∷ []
needs _ = 1 ∷ []

-- the fields that must be set
abbrev pub needs_set : Milestone → List Field
needs_set TsatIssue = Tobt ∷ []
needs_set BoardingStarts = Tobt ∷ []
needs_set AircraftReady = Tobt ∷ []
needs_set StartUpRequest = Tsat ∷ []
needs_set StartUpApproved = Tsat ∷ []
needs_set _ = []

-- the milestone from which on it can be reported no more
abbrev pub bar : Milestone → ℕ
bar TwoHoursBeforeEobt = 16
bar TakeOffFromOutstation = 6
bar LocalRadarUpdate = 6
bar FinalApproach = 6
bar Landed = 7
bar TobtUpdate = 14
bar OffBlock = 16
bar TakeOff = 16
bar _ = 15

-- whether a record has reached its schedule (0) or a milestone
abbrev pub has_reached : Fields → ℕ → Bool
has_reached r m = bit_at (number_of r Reached) m == 1

-- a record that has reached it
abbrev pub marked : Fields → ℕ → Fields
marked r m = set_number r Reached (bit_or (number_of r Reached) (2 ^ m))

-- the same for a bit that may be none
abbrev pub marked_by : Fields → Option ℕ → Fields
marked_by r None = r
marked_by r (Some m) = marked r m

abbrev pub is_set : Fields → Field → Bool
is_set r f = not (number_of r f == 0)

-- the later is not before the earlier, where both are set
abbrev pub follows : Fields → Field → Field → Bool
follows r later earlier = number_of r earlier == 0
    || (number_of r later == 0 || nat_le (number_of r earlier) (number_of r later))

abbrev pub is_in_order : Fields → Bool
is_in_order r = follows r Aibt Aldt
    && (follows r Acgt Aibt && (follows r Asat Asrt && follows r Atot Aobt))

-- whether a role may report a milestone of a flight with this record at this time, else the first
-- refusal
abbrev pub admission : Fields → Role → Milestone → ℕ → Result (Unit {0}) Refusal
admission r role m time =
    if not (owns role (Report m)) then Err NotOwner
    else (if not (list_all (has_reached r) (needs m)) then Err MissingMilestone
    else (if has_reached r (bar m) then Err Barred
    else (if not (list_all (is_set r) (needs_set m)) then Err NotSet
    else (if not (is_in_order (with_all r (times_of m time))) then Err TimeOrder
    else Ok tt))))
