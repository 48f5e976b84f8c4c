use Rattle.std.proofs.Common.{sym, ◌∙◌, arith}
use Rattle.acdm_wire.proofs.PlainMembers.{found_here, passed_over}
use Rattle.acdm_wire.proofs.line_json.last_of.Goals as goal

pub returns-then-eq : goal.returns-then-eq
returns-then-eq c =
    sym (c.left.invariant.others ∙ found_here c.args.name.now c.args.members.now c.left.left _ c.eq.result
    c.left-test.true c.left.invariant.inside c.eq.ensures c.if-eq.true)

pub left-preserved : goal.left-preserved
left-preserved c =
    record {
      inside = omega (arith, c.left.invariant.inside);
      others = c.left.invariant.others ∙ passed_over c.args.name.now c.args.members.now c.left.left _ c.eq.result
          c.left-test.true c.left.invariant.inside c.eq.ensures c.if-eq.false;
    }
