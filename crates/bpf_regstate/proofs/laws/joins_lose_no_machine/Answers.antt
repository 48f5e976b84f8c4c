use Rattle.bpf_regstate.proofs.JoinsHold.{joined_left, joined_right, all_hold}
use Rattle.bpf_regstate.proofs.laws.joins_lose_no_machine.Goals as goal

pub returns-clause-first : goal.returns-clause-first
returns-clause-first c = joined_left

pub returns-clause-second : goal.returns-clause-second
returns-clause-second c = joined_right

pub returns-clause-all : goal.returns-clause-all
returns-clause-all c = all_hold
