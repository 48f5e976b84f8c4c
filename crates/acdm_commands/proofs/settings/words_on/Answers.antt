use Rattle.std.proofs.Common.{map, sym, subst, string_bytes, Vec, String, Global}
use Rattle.acdm_judging.specs.Gave.{GaveBytes}
use Rattle.acdm_settings.specs.Settings.{most_text}
use Rattle.acdm_commands.proofs.FromSettings.{gave_none}
use Rattle.acdm_commands.proofs.settings.words_on.Goals as goal

pub returns-clause-none : goal.returns-clause-none
returns-clause-none g c =
    gave_none {X = Vec (String Global) Global} (λ v. map (λ s. string_bytes s) v.items) c.args.place.path.now c.as_slice.result.now c.in-Err.error
    c.args.reader.now c.bytes_of.new.reader c.args.errors.now c.refuse.new.errors
    (subst (λ t. GaveBytes most_text c.args.reader.now c.bytes_of.new.reader t)
    (sym c.as_slice.ensures.value) c.in-Ok.ensures.gave) c.in-Err.ensures c.refuse.ensures
