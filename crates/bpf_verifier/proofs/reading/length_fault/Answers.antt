use Rattle.std.proofs.Common.{length, sym, arith}
use Rattle.std.proofs.lemmas.Bool.{eqb-true}
use Rattle.bpf_decode.specs.Encoding.{too_long, no_slots}
use Rattle.bpf_verifier.proofs.reading.length_fault.Goals as goal
use Rattle.bpf_verifier.proofs.reading.length_fault.Goals.{then-is_empty-via-then-is_empty}
use Rattle.bpf_verifier.proofs.reading.length_fault.Goals.{then-is_empty-via-else-is_empty+then-bytes-ne0}

pub returns-then-bytes-clause-some : goal.returns-then-bytes-clause-some
returns-then-bytes-clause-some c = too_long (omega arith)

pub returns-then-is_empty-clause-some : goal.returns-then-is_empty-clause-some
returns-then-is_empty-clause-some c =
    no_slots (omega arith) (λ slots. elim c.then-is_empty.branch [
      | then-is_empty-via-then-is_empty w ↦
          omega (arith, slots.0, eqb-true (length c.args.bytes.now) 0 (sym w.if-is_empty.ensures))
      | then-is_empty-via-else-is_empty+then-bytes-ne0 w ↦ w.if-bytes-ne0.true slots.1
    ])
