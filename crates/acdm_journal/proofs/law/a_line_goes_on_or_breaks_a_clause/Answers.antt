use Rattle.acdm_journal.proofs.OneVerdict.{breaks_none}
use Rattle.acdm_journal.proofs.law.a_line_goes_on_or_breaks_a_clause.Goals as goal

pub returns : goal.returns
returns c = breaks_none
