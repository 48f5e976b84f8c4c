use Rattle.std.proofs.Common.{sym, ◌∙◌, arith}
use Rattle.bpf_regstate.proofs.Differences.{wrapped_difference}
use Rattle.bpf_regstate.proofs.arith.subtract.Goals as goal

pub returns : goal.returns
returns c =
    let same = wrapped_difference c.args.width c.args.a.lo c.args.b.hi c.args.a.hi c.args.b.lo
    (omega (arith, c.requires.width)) (omega (arith, c.requires.ordered, c.requires.width)) in
    c.wrap.ensures ∙ rw c.size_of_width-size.ensures (sym same)
