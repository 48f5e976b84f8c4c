use Rattle.std.proofs.Common.{ap, sym, ◌∙◌}
use Rattle.std.specs.Prelude.{option_map, string_bytes}
use Rattle.acdm_following.proofs.Named.{no_name}
use Rattle.acdm_following.proofs.entering.has_name.Goals as goal

pub returns-in_default-clause-name : goal.returns-in_default-clause-name
returns-in_default-clause-name g c =
    no_name c.args.desk.now.history c.args.name.now
    (sym c.in_ok-own.ensures.name ∙ ap (option_map string_bytes) c.in_default.is)
