use Rattle.std.proofs.Common.{length}
use Rattle.bpf_decode.proofs.WholeLemmas.{IsRead}
use Rattle.bpf_decode.proofs.decoder.instructions.Given as goal

abbrev pub invariant-loop-rest : goal.invariant-loop-rest
invariant-loop-rest l = IsRead l.bytes l.ops.items l.rest

abbrev pub decreases-loop-rest : goal.decreases-loop-rest
decreases-loop-rest l = length l.rest
