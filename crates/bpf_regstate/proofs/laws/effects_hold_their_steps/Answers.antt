use Rattle.bpf_regstate.proofs.Safe.{edges_hold}
use Rattle.bpf_regstate.proofs.laws.effects_hold_their_steps.Goals as goal

pub returns : goal.returns
returns c = edges_hold
