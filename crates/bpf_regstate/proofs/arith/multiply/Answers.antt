use Rattle.std.proofs.Common.{arith}
use Rattle.std.proofs.lemmas.Nat.{mul-le}
use Rattle.bpf_regstate.proofs.ResultsInRange.{width_fits}
use Rattle.bpf_regstate.proofs.arith.multiply.Goals as goal

pub overflow_cast-result-then-most-size_of_width-2 : goal.overflow_cast-result-then-most-size_of_width-2
overflow_cast-result-then-most-size_of_width-2 c =
    omega (
      arith,
      mul-le c.args.a.lo c.args.b.lo c.args.a.hi c.args.b.hi c.requires.first
          c.requires.second,
      width_fits c.args.width,
      c.size_of_width.ensures,
    )
