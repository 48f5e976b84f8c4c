use Rattle.std.proofs.Common.{◌≡◌, suc, ◌+◌, refl, add-one, arith}
use Rattle.bpf_regstate.specs.States.{states}
use Rattle.bpf_regstate.proofs.Push.{one_slot, nothing_yet}
use Rattle.bpf_regstate.proofs.laws.one_pass_is_enough.Goals as goal

pub returns-clause-start : goal.returns-clause-start
unfolding states
returns-clause-start c = λ record_length ops sigs. refl

pub returns-clause-empty : goal.returns-clause-empty
returns-clause-empty c = λ record_length ops sigs to. nothing_yet record_length ops sigs (to + 1)
    (omega arith)

pub returns-clause-step : goal.returns-clause-step
returns-clause-step c = λ record_length ops sigs slot to.
    let moved : slot + 1 ≡ suc slot = add-one slot in
    rw moved (one_slot record_length ops sigs slot to)

pub returns-clause-turn : goal.returns-clause-turn
returns-clause-turn c = λ record_length ops sigs slot. refl
