use Rattle.acdm_place.proofs.Lines.{ended_cut, failed_cut, closed_cut, answered_cut, late_cut, served_said}
use Rattle.acdm_place.proofs.law.who_is_gone_is_cut_off.Goals as goal

pub returns : goal.returns
returns c = record {
  ended = ended_cut;
  failed = failed_cut;
  closed = closed_cut;
  answered = answered_cut;
  late = late_cut;
  over = served_said;
}
