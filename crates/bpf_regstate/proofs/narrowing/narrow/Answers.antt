use Rattle.std.proofs.Common.{true}
use Rattle.bpf_regstate.proofs.Ordered.{narrowed_ordered}
use Rattle.bpf_regstate.proofs.narrowing.narrow.Goals as goal

pub returns-then-taken-clause-ranges : goal.returns-then-taken-clause-ranges
returns-then-taken-clause-ranges c =
    rw c.narrow_holding.ensures (narrowed_ordered c.args.condition true c.args.a c.args.b
    c.requires.first c.requires.second)

pub returns-else-taken-clause-ranges : goal.returns-else-taken-clause-ranges
returns-else-taken-clause-ranges c =
    rw c.narrow_holding-else-taken.ensures
    (narrowed_ordered c.opposite.result true c.args.a c.args.b c.requires.first
    c.requires.second)
