use Rattle.acdm_place.proofs.Ends.{over_answered, no_next}
use Rattle.acdm_place.proofs.Lines.{none_admitted, no_newcomer, may_cut}
use Rattle.acdm_place.proofs.law.closing_answers_the_line_in_hand.Goals as goal

pub returns : goal.returns
returns c = record {
  closed = none_admitted;
  newcomers = no_newcomer;
  next = no_next;
  answered = over_answered;
  cut = may_cut;
}
