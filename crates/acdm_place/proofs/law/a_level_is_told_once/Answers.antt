use Rattle.acdm_place.proofs.Filling.{first, always, once}
use Rattle.acdm_place.proofs.law.a_level_is_told_once.Goals as goal

pub returns : goal.returns
returns c = record { first = first; always = always; once = once }
