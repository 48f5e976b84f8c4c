use Rattle.std.proofs.Common.{◌<◌, ◌≤◌, ◌+◌, arith, sym, ◌∙◌}
use Rattle.bpf_regstate.specs.Marks.{marks_of}
use Rattle.bpf_regstate.proofs.Marking.{none_tested, part_ends, part_fails, part_tested}
use Rattle.bpf_regstate.proofs.marks.are_marked.Goals as goal

pub loop-place-init : goal.loop-place-init
loop-place-init c = (omega arith, none_tested (marks_of c.args.words.now) c.args.at)

pub returns-then-not-is_marked : goal.returns-then-not-is_marked
returns-then-not-is_marked c =
    sym
    (part_fails c.args.words.now c.args.at c.loop-place.place c.args.count c.loop-place.auto.place
    (omega (arith, c.loop-place-test.true, c.min-end.ensures))
    (omega (arith, c.loop-place-test.true, c.min-end.ensures, c.saturating_add.ensures))
    (sym c.is_marked.ensures ∙ c.if-not-is_marked.true))

pub loop-place-preserved : goal.loop-place-preserved
loop-place-preserved c =
    let inside : c.loop-place.place < 512 = omega
    (arith, c.loop-place-test.true, c.min-end.ensures) in
    let few : c.loop-place.place + 1 ≤ c.args.at + c.args.count = omega
    (arith, c.loop-place-test.true, c.min-end.ensures, c.saturating_add.ensures) in (
      few,
      part_tested c.args.words.now c.args.at c.loop-place.place c.loop-place.auto.place inside
          c.loop-place.invariant.1
          (sym c.is_marked.ensures ∙ c.if-not-is_marked.false),
    )

pub returns : goal.returns
returns c =
    sym
    (part_ends c.args.words.now c.args.at c.loop-place.place c.args.count c.loop-place.auto.place
    c.loop-place.invariant.0
    (λ less. omega
    (arith, less, c.loop-place-test.false, c.min-end.ensures, c.saturating_add.ensures))
    c.loop-place.invariant.1)
