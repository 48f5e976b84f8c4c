-- What is told of what was found on the boards before an entry and after it.
use Rattle.std.specs.Prelude.{ℕ, ◌==◌, if◌then◌else◌, List, [], Option, Some, None}
use Rattle.json.specs.Token.{Token}
use Rattle.acdm_record.specs.declared.field.Field.TheVariants.{Alerts}
use Rattle.acdm_record.specs.Fields.{Fields, number_of}
use Rattle.acdm_feed.specs.Records.{record_tokens}

-- the record that was found
abbrev pub found_tokens : Option Fields → List Token
found_tokens None = []
found_tokens (Some r) = record_tokens r

-- the record that was found, where its alerts are others than these
abbrev pub other_from : Option ℕ → Option Fields → List Token
other_from (Some before) (Some r) =
    if before == number_of r Alerts then [] else record_tokens r
other_from _ _ = []
