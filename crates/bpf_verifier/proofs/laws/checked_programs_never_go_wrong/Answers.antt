use Rattle.bpf_verifier.proofs.NeverWrong.{held, steps, free, asks, few, answers_are_few, ends}
use Rattle.bpf_verifier.proofs.laws.checked_programs_never_go_wrong.Goals as goal

pub returns-clause-held : goal.returns-clause-held
returns-clause-held c = held

pub returns-clause-steps : goal.returns-clause-steps
returns-clause-steps c = steps

pub returns-clause-free : goal.returns-clause-free
returns-clause-free c = free

pub returns-clause-asks : goal.returns-clause-asks
returns-clause-asks c = asks

pub returns-clause-few : goal.returns-clause-few
returns-clause-few c = few

pub returns-clause-answers : goal.returns-clause-answers
returns-clause-answers c = answers_are_few

pub returns-clause-ends : goal.returns-clause-ends
returns-clause-ends c = ends
