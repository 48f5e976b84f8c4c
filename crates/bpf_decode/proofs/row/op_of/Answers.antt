use Rattle.bpf_decode.proofs.RowLemmas.{opcode_fault}
use Rattle.bpf_decode.proofs.row.op_of.Goals as goal

pub returns-in_default : goal.returns-in_default
returns-in_default c = opcode_fault c.args.insn c.in_default.ensures
