use Rattle.bpf_decode.proofs.OnceLemmas.{only_program, only_fault}
use Rattle.bpf_decode.proofs.decoder.decode.Goals as goal

pub returns-clause-only_program : goal.returns-clause-only_program
returns-clause-only_program c =
    λ ops encodes. only_program c.args.bytes.now ops c.program_of.result
    c.program_of.ensures.program c.program_of.ensures.refused encodes

pub returns-clause-only_fault : goal.returns-clause-only_fault
returns-clause-only_fault c = λ code slot fault. only_fault c.args.bytes.now code slot
    c.program_of.result c.program_of.ensures.program c.program_of.ensures.refused fault
