use Rattle.acdm_place.proofs.Lines.{line_admitted, line_taken}
use Rattle.acdm_place.proofs.law.lines_of_who_is_heard_are_admitted.Goals as goal

pub returns : goal.returns
returns c = record { only = line_admitted; always = line_taken }
