use Rattle.bpf_regstate.proofs.Ones.{filled_is_least}
use Rattle.bpf_regstate.proofs.Ordered.{result_ordered}
use Rattle.bpf_regstate.proofs.ResultsInRange.{result_in}
use Rattle.bpf_regstate.proofs.ResultsOfOne.{negate_in, extend_in, order_result_in}
use Rattle.bpf_regstate.proofs.AccessHolds.{loads_in}
use Rattle.bpf_regstate.proofs.laws.results_stay_in_range.Goals as goal

pub returns-clause-arithmetic : goal.returns-clause-arithmetic
returns-clause-arithmetic c = result_in

pub returns-clause-negation : goal.returns-clause-negation
returns-clause-negation c = negate_in

pub returns-clause-extension : goal.returns-clause-extension
returns-clause-extension c = extend_in

pub returns-clause-order : goal.returns-clause-order
returns-clause-order c = order_result_in

pub returns-clause-loads : goal.returns-clause-loads
returns-clause-loads c = loads_in

pub returns-clause-ones : goal.returns-clause-ones
returns-clause-ones c = filled_is_least

pub returns-clause-ranges : goal.returns-clause-ranges
returns-clause-ranges c = result_ordered
