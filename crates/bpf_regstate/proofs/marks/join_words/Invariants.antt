use Rattle.std.proofs.Common.{◌≡◌, bit_and}
use Rattle.bpf_regstate.proofs.Each.{zip_to}
use Rattle.bpf_regstate.proofs.marks.join_words.Given as goal

abbrev pub invariant-loop-i : goal.invariant-loop-i
invariant-loop-i l = l.words ≡ zip_to bit_and l.i l.initial.words l.others
