use Rattle.acdm_step.proofs.Replay.{slot-replay}
use Rattle.acdm_step.proofs.law.slots_are_asked_of_the_history.Goals as goal

pub returns : goal.returns
returns c = slot-replay
