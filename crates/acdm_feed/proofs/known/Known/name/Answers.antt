use Rattle.std.proofs.Common.{ap, sym, ◌∙◌}
use Rattle.std.specs.Prelude.{option_map, string_bytes}
use Rattle.acdm_feed.proofs.Naming.{name_told}
use Rattle.acdm_feed.proofs.known.Known.name.Goals as goal

pub returns-in-Some : goal.returns-in-Some
returns-in-Some c J k =
    c.as_str.ensures.value
    ∙ name_told J _ (sym (ap (option_map string_bytes) c.in-Some.is) ∙ k.named)

pub returns-in-None : goal.returns-in-None
returns-in-None c J k =
    name_told J _ (sym (ap (option_map string_bytes) c.in-None.is) ∙ k.named)
