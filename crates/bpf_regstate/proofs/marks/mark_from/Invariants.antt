use Rattle.std.proofs.Common.{◌≡◌, ◌-◌}
use Rattle.bpf_regstate.specs.Marks.{marks_of}
use Rattle.bpf_regstate.proofs.Marking.{part_marked}
use Rattle.bpf_regstate.proofs.marks.mark_from.Given as goal

abbrev pub invariant-loop-place : goal.invariant-loop-place
invariant-loop-place l = marks_of l.words ≡ part_marked (marks_of l.initial.words) l.at
    (l.place - l.at)
