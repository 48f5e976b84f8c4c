-- What an answer unfolds to compute the reading of a line that is written out.
use Rattle.std.specs.Prelude.{⊤}
use Rattle.std.specs.Str.{is_utf8, chars}
use Rattle.serde_json.proofs.OnLiterals.{serde_json_on_literals}
use Rattle.jiff.proofs.OnLiterals.{jiff_on_literals}
use Rattle.hex.proofs.OnLiterals.{hex_on_literals}
use Rattle.acdm_wire.specs.Meant.{meant, head_of, natural_of, number_field, text_field}
use Rattle.acdm_wire.specs.Meant.{time_field, time_or_null, plan_field, schedule_field}
use Rattle.acdm_wire.specs.Meant.{milestone_field, report_field, deicing_field, deice_field}
use Rattle.acdm_wire.specs.Meant.{show_field, kind_field, program_field, length_field}
use Rattle.acdm_wire.specs.Meant.{load_field, unload_field, plain_named, command_named}
use Rattle.acdm_wire.specs.Meant.{command_of, json_of}

unfoldable pub lines_on_literals : ⊤
unfolding meant head_of natural_of number_field text_field time_field time_or_null plan_field
    schedule_field milestone_field report_field deicing_field deice_field show_field kind_field
    program_field length_field load_field unload_field plain_named command_named command_of json_of
    is_utf8 chars serde_json_on_literals jiff_on_literals hex_on_literals
lines_on_literals = tt
