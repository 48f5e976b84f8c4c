use Rattle.std.proofs.Common.{◌≡◌, ◌≤◌, ◌-◌, ◌+◌, true}
use Rattle.bpf_regstate.specs.Marks.{marks_of}
use Rattle.bpf_regstate.proofs.Marking.{all_of_part}
use Rattle.bpf_regstate.proofs.marks.are_marked.Given as goal

abbrev pub invariant-loop-place : goal.invariant-loop-place
invariant-loop-place l = (l.place ≤ l.at + l.count) ×
    (all_of_part (marks_of l.words) l.at (l.place - l.at) ≡ true)
