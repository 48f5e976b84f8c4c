use Rattle.std.proofs.Common.{◌≡◌}
use Rattle.bpf_regstate.specs.Joins.{join_reg}
use Rattle.bpf_regstate.proofs.Each.{zip_to}
use Rattle.bpf_regstate.proofs.reg.join_each.Given as goal

abbrev pub invariant-loop-i : goal.invariant-loop-i
invariant-loop-i l = l.xs ≡ zip_to join_reg l.i l.initial.xs l.ys
