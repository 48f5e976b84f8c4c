use Rattle.bpf_regstate.proofs.NarrowingHolds.{narrowed_in}
use Rattle.bpf_regstate.proofs.RefinedHolds.{refined_holds}
use Rattle.bpf_regstate.proofs.laws.narrowing_loses_no_word.Goals as goal

pub returns-clause-words : goal.returns-clause-words
returns-clause-words c = narrowed_in

pub returns-clause-states : goal.returns-clause-states
returns-clause-states c = refined_holds
