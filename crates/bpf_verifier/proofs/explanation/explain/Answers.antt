use Rattle.bpf_verifier.proofs.PassLemmas.{explained}
use Rattle.bpf_verifier.proofs.explanation.explain.Goals as goal

pub returns : goal.returns
returns c = rw (← c.ops-ops.ensures.slots, ← c.bytes-bytes.ensures.value)
    (explained c.bytes-bytes.result c.ops-ops.result.now c.args.sigs.now
    (record { states = c.walk.new.known; fault = c.in_ok-fault.fault }) c.in_ok-fault.ensures.states
    c.in_ok-fault.ensures.verdict)
