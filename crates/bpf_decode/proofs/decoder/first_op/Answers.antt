use Rattle.std.proofs.Common.{◌∙◌, arith}
use Rattle.bpf_decode.specs.Encoding.{row}
use Rattle.bpf_decode.proofs.DecoderLemmas.{op_begins}
use Rattle.bpf_decode.proofs.decoder.first_op.Goals as goal

pub returns-in-Err : goal.returns-in-Err
returns-in-Err c = (
  0,
  omega arith,
  row c.requires.long (rw c.from_bytes-insn.ensures at c.in-Err.ensures),
)

pub returns-in_default : goal.returns-in_default
returns-in_default c =
    op_begins c.in-Ok.op c.args.rest.now c.requires.long (λ i. omega (arith, c.type_inv.rest i))
    c.in-Ok.ensures.0
    (c.in-Ok.ensures.1 ∙ c.from_bytes-insn.ensures) c.in_default.not-Wide
