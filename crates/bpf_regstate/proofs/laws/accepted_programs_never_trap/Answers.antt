use Rattle.bpf_regstate.proofs.Safe.{few_steps, goes_to_its_end, never_trapped, reached_is_held}
use Rattle.bpf_regstate.proofs.laws.accepted_programs_never_trap.Goals as goal

pub returns-clause-held : goal.returns-clause-held
returns-clause-held c = λ ops sigs record_bytes moment milestone run. reached_is_held ops sigs
    record_bytes moment milestone run

pub returns-clause-free : goal.returns-clause-free
returns-clause-free c = λ ops sigs record_bytes moment milestone run. never_trapped ops sigs
    record_bytes moment milestone run

pub returns-clause-few : goal.returns-clause-few
returns-clause-few c = λ ops sigs record_bytes moment milestone run. few_steps ops sigs record_bytes
    moment milestone run

pub returns-clause-ends : goal.returns-clause-ends
returns-clause-ends c = λ ops sigs record_bytes moment milestone run. goes_to_its_end ops sigs
    record_bytes moment milestone run
