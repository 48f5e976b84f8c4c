use Rattle.bpf_regstate.proofs.JoinsHold.{edge_held}
use Rattle.bpf_regstate.proofs.laws.states_hold_their_edges.Goals as goal

pub returns : goal.returns
returns c = edge_held
