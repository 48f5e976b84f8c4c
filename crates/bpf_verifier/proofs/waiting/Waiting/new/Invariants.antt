use Rattle.std.proofs.Common.{◌≡◌, ◌++◌, None, replicate}
use Rattle.bpf_verifier.proofs.waiting.Waiting.new.Given as goal

abbrev pub invariant-loop : goal.invariant-loop
invariant-loop l = l.rows.items ≡ l.initial.rows.items ++ replicate l.counter None
