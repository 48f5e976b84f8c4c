use Rattle.acdm_journal.proofs.OneText.{one_history, no_fault, one_fault}
use Rattle.acdm_journal.proofs.law.a_text_has_one_verdict.Goals as goal

pub returns : goal.returns
returns c = record { one_history = one_history; no_fault = no_fault; one_fault = one_fault }
