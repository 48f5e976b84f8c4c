-- The names of roles (this project's profile).
use Rattle.std.specs.Prelude.{ℕ, if◌then◌else◌, List, codes, Option, Some, None}
use Rattle.std.specs.Str.{bytes_eq}
use Rattle.acdm_milestones.specs.declared.role.Role.{Role}
use Rattle.acdm_milestones.specs.declared.role.Role.TheVariants.{NetworkManager, AirTrafficControl}
use Rattle.acdm_milestones.specs.declared.role.Role.TheVariants.{AirportOperator, AircraftOperator}
use Rattle.acdm_milestones.specs.declared.role.Role.TheVariants.{GroundHandler, DeicingCompany}

abbrev pub role_name : Role → List ℕ
role_name NetworkManager = codes "NM"
role_name AirTrafficControl = codes "ATC"
role_name AirportOperator = codes "APT"
role_name AircraftOperator = codes "AO"
role_name GroundHandler = codes "GH"
role_name DeicingCompany = codes "DIC"

-- the role of a name
abbrev pub role_named : List ℕ → Option Role
role_named w =
    if bytes_eq w (codes "NM") then Some NetworkManager
    else (if bytes_eq w (codes "ATC") then Some AirTrafficControl
    else (if bytes_eq w (codes "APT") then Some AirportOperator
    else (if bytes_eq w (codes "AO") then Some AircraftOperator
    else (if bytes_eq w (codes "GH") then Some GroundHandler
    else (if bytes_eq w (codes "DIC") then Some DeicingCompany else None)))))
