use Rattle.bpf_regstate.proofs.FirstFault.{accepts_from, accepts_to, first_fault_is}
use Rattle.bpf_regstate.proofs.laws.the_first_fault_is_found.Goals as goal

pub returns-clause-none : goal.returns-clause-none
returns-clause-none c = accepts_from

pub returns-clause-accepted : goal.returns-clause-accepted
returns-clause-accepted c = accepts_to

pub returns-clause-found : goal.returns-clause-found
returns-clause-found c = first_fault_is
