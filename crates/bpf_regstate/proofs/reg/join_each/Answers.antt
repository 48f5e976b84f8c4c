use Rattle.std.proofs.Common.{arith, ◌∙◌}
use Rattle.bpf_regstate.specs.declared.reg.Reg.TheVariants.{Uninit}
use Rattle.bpf_regstate.specs.Joins.{join_reg}
use Rattle.bpf_regstate.proofs.Each.{zip_more, zip_all}
use Rattle.bpf_regstate.proofs.reg.join_each.Goals as goal

pub loop-i-preserved : goal.loop-i-preserved
loop-i-preserved c =
    zip_more join_reg Uninit c.args.xs.now c.args.ys.now c.loop-i.xs c.loop-i.i _ c.loop-i.invariant
    c.join_one.ensures (omega arith) (omega arith)

pub returns : goal.returns
returns c = c.loop-i.invariant
    ∙ zip_all join_reg c.args.xs.now c.args.ys.now c.loop-i.i c.loop-i-test.false c.requires
