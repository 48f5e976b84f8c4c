use Rattle.acdm_place.proofs.Hearing.{heard_only, heard_once, heard_always, heard_served}
use Rattle.acdm_place.proofs.law.connections_are_heard_one_after_the_other.Goals as goal

pub returns : goal.returns
returns c = record {
  only = heard_only;
  once = heard_once;
  always = heard_always;
  served = heard_served;
}
