use Rattle.std.proofs.Common.{length, sym, arith}
use Rattle.std.proofs.lemmas.Bool.{eqb-true}
use Rattle.bpf_decode.specs.Encoding.{too_long, no_slots}
use Rattle.bpf_decode.proofs.decoder.program_of.Goals as goal
use Rattle.bpf_decode.proofs.decoder.program_of.Goals.{then-is_empty-via-then-is_empty}
use Rattle.bpf_decode.proofs.decoder.program_of.Goals.{then-is_empty-via-else-is_empty+then-bytes-ne0}

pub returns-then-bytes-gt-MOST_BYTES-clause-refused :
    goal.returns-then-bytes-gt-MOST_BYTES-clause-refused
returns-then-bytes-gt-MOST_BYTES-clause-refused c = too_long c.if-bytes-gt-MOST_BYTES.true

pub returns-then-is_empty-clause-refused : goal.returns-then-is_empty-clause-refused
returns-then-is_empty-clause-refused c =
    no_slots c.if-bytes-gt-MOST_BYTES.false (λ slots. elim c.then-is_empty.branch [
      | then-is_empty-via-then-is_empty w ↦
          omega (arith, slots.0, eqb-true (length c.args.bytes.now) 0 (sym w.if-is_empty.ensures))
      | then-is_empty-via-else-is_empty+then-bytes-ne0 w ↦ w.if-bytes-ne0.true slots.1
    ])
