use Rattle.std.proofs.Common.{◌≡◌, ◌-◌, ◌<◌, length, arith, ap, ◌∙◌}
use Rattle.bpf_regstate.specs.Marks.{marks_of}
use Rattle.bpf_regstate.proofs.Marking.{length-marks, part_all, part_marked, part_more, part_none}
use Rattle.bpf_regstate.proofs.marks.mark_from.Goals as goal

pub loop-place-init : goal.loop-place-init
loop-place-init c = part_none (marks_of c.args.words.now) c.args.at

pub loop-place-preserved : goal.loop-place-preserved
loop-place-preserved c =
    let inside : c.loop-place.place < length (marks_of c.args.words.now) = omega
    (arith, length-marks c.args.words.now, c.requires.inside, c.loop-place-test.true) in
    c.mark.ensures
    ∙ part_more (marks_of c.args.words.now)
    (marks_of c.loop-place.words) c.args.at c.loop-place.place c.loop-place.auto.place inside
    c.loop-place.invariant

pub returns : goal.returns
returns c =
    let all : c.loop-place.place - c.args.at ≡ c.args.count = omega
    (arith, c.loop-place-test.false, c.loop-place.auto.place, c.loop-place.auto.place-end) in
    c.loop-place.invariant
    ∙ ap (part_marked (marks_of c.args.words.now) c.args.at) all
    ∙ part_all (marks_of c.args.words.now) c.args.at c.args.count
