-- Times of de-icing (this project's profile): their names, their fields, and which are taken.
use Rattle.std.specs.Prelude.{ℕ, ◌&&◌, not, Bool, if◌then◌else◌, List, codes, Option, Some, None}
use Rattle.std.specs.Prelude.{Result, Ok, Err}
use Rattle.std.specs.Str.{bytes_eq}
use Rattle.acdm_record.specs.declared.field.Field.{Field}
use Rattle.acdm_record.specs.declared.field.Field.TheVariants.{Eczt, Eezt, Aczt, Aezt}
use Rattle.acdm_record.specs.Fields.{Fields, set_number}
use Rattle.acdm_milestones.specs.declared.deicing.DeicingTime.{DeicingTime}
use Rattle.acdm_milestones.specs.declared.deicing.DeicingTime.TheVariants.{EstimatedCommencement}
use Rattle.acdm_milestones.specs.declared.deicing.DeicingTime.TheVariants.{EstimatedEnd}
use Rattle.acdm_milestones.specs.declared.deicing.DeicingTime.TheVariants.{ActualCommencement}
use Rattle.acdm_milestones.specs.declared.deicing.DeicingTime.TheVariants.{ActualEnd}
use Rattle.acdm_milestones.specs.declared.refusal.Refusal.{Refusal}
use Rattle.acdm_milestones.specs.declared.refusal.Refusal.TheVariants.{MissingMilestone, Barred}
use Rattle.acdm_milestones.specs.declared.refusal.Refusal.TheVariants.{TimeOrder}
use Rattle.acdm_milestones.specs.Tables.{has_reached, follows}

abbrev pub deicing_name : DeicingTime → List ℕ
deicing_name EstimatedCommencement = codes "eczt"
deicing_name EstimatedEnd = codes "eezt"
deicing_name ActualCommencement = codes "aczt"
deicing_name ActualEnd = codes "aezt"

-- the time of a name
abbrev pub deicing_named : List ℕ → Option DeicingTime
deicing_named w =
    if bytes_eq w (codes "eczt") then Some EstimatedCommencement
    else (if bytes_eq w (codes "eezt") then Some EstimatedEnd
    else (if bytes_eq w (codes "aczt") then Some ActualCommencement
    else (if bytes_eq w (codes "aezt") then Some ActualEnd else None)))

abbrev pub deicing_field : DeicingTime → Field
deicing_field EstimatedCommencement = Eczt
deicing_field EstimatedEnd = Eezt
deicing_field ActualCommencement = Aczt
deicing_field ActualEnd = Aezt

-- no end before its commencement
abbrev pub is_deicing_in_order : Fields → Bool
is_deicing_in_order r = follows r Eezt Eczt && follows r Aezt Aczt

-- whether a flight with this record may be given this time, else the first refusal
abbrev pub deicing_admission : Fields → DeicingTime → ℕ → Result (Unit {0}) Refusal
deicing_admission r which time =
    if not (has_reached r 1) then Err MissingMilestone
    else (if has_reached r 16 then Err Barred
    else (if not (is_deicing_in_order (set_number r (deicing_field which) time)) then Err TimeOrder
    else Ok tt))
