use Rattle.bpf_regstate.proofs.Ordered.{arith_ordered}
use Rattle.bpf_regstate.proofs.arith.operate_on_ranges.Goals as goal

pub returns-clause-range : goal.returns-clause-range
returns-clause-range c = rw c.results-2.ensures
    (arith_ordered c.args.code c.args.width c.args.a c.args.b c.requires.first c.requires.second)
