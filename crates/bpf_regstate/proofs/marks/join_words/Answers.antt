use Rattle.std.proofs.Common.{arith, ap, sym, refl, ◌∙◌, bit_and}
use Rattle.bpf_regstate.specs.Marks.{marks_of}
use Rattle.bpf_regstate.proofs.Each.{zip_more, zip_all}
use Rattle.bpf_regstate.proofs.Marking.{joined_marks}
use Rattle.bpf_regstate.proofs.marks.join_words.Goals as goal

pub loop-i-preserved : goal.loop-i-preserved
loop-i-preserved c =
    zip_more bit_and 0 c.args.words.now c.args.others.now c.loop-i.words c.loop-i.i _
    c.loop-i.invariant refl
    (omega (arith, c.requires.eight, c.loop-i-test.true))
    (omega (arith, c.requires.eight, c.requires.eight_too, c.loop-i-test.true))

pub returns : goal.returns
returns c =
    ap marks_of
    (c.loop-i.invariant
    ∙ zip_all bit_and c.args.words.now c.args.others.now c.loop-i.i c.loop-i-test.false
    (c.requires.eight ∙ sym c.requires.eight_too))
    ∙ joined_marks c.args.words.now c.args.others.now c.requires.eight c.requires.eight_too
