use Rattle.acdm_place.proofs.Ends.{over_stays, closed_ends, gone_ends, goes_on, waits, nobody_left}
use Rattle.acdm_place.proofs.law.a_session_ends_for_good.Goals as goal

pub returns : goal.returns
returns c = record {
  good = over_stays;
  closed = closed_ends;
  gone = gone_ends;
  nobody = nobody_left;
  goes_on = goes_on;
  waits = waits;
}
