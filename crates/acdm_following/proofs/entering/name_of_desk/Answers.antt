use Rattle.std.proofs.Common.{ap, Some, ◌∙◌}
use Rattle.std.specs.Prelude.{option_map}
use Rattle.acdm_feed.specs.Naming.{name_of}
use Rattle.acdm_following.proofs.Named.{first_is}
use Rattle.acdm_following.proofs.entering.name_of_desk.Goals as goal

pub returns-in_default-clause-name : goal.returns-in_default-clause-name
returns-in_default-clause-name g c =
    ap (option_map name_of) (c.in_default.ensures.value ∙ first_is c.args.desk.now.history)

pub returns-clause-name : goal.returns-clause-name
returns-clause-name g c =
    ap Some c.in_ok-name.ensures
    ∙ ap (option_map name_of) (c.in-Some.ensures.value ∙ first_is c.args.desk.now.history)
