use Rattle.std.proofs.Common.{arith, ◌∙◌}
use Rattle.std.proofs.lemmas.List.{with_items_is}
use Rattle.bpf_regstate.specs.Joins.{join_reg}
use Rattle.bpf_regstate.proofs.KeptWords.{join_cut}
use Rattle.bpf_regstate.proofs.words.join_kept.Goals as goal

pub returns : goal.returns
returns c =
    let whole = join_cut join_reg c.args.words.now.items c.args.others.now
    c.as_mut_slice.result.now c.join_each.new.xs c.len-both.result
    (c.as_mut_slice.ensures.value ∙ c.truncate.ensures.items)
    (omega (arith, c.len-both.ensures, c.as_mut_slice.ensures.len)) c.join_each.ensures in
    with_items_is c.truncate.new.self c.join_each.new.xs
    (omega (arith, whole.0, c.as_mut_slice.ensures.len)) ∙ whole.1
