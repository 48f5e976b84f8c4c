-- What a line at the control address asks for (this project's profile).
use Rattle.std.specs.Prelude.{ℕ, ◌≡◌, ◌≢◌, List, codes}
use Rattle.acdm_partners.specs.declared.request.ControlRequest.{ControlRequest}
use Rattle.acdm_partners.specs.declared.request.ControlRequest.TheVariants.{Close, Status, Promote, Nothing}

-- `close`, `status`, `promote`, or nothing that there is
abbrev pub AsksFor : List ℕ → ControlRequest → Type 0
AsksFor line Close = line ≡ codes "close"
AsksFor line Status = line ≡ codes "status"
AsksFor line Promote = line ≡ codes "promote"
AsksFor line Nothing = (line ≢ codes "close") × (line ≢ codes "status") × (line ≢ codes "promote")
