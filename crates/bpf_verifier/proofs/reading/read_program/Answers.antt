use Rattle.std.proofs.Common.{Err, inl, sym, subst}
use Rattle.bpf_decode.specs.Encoding.{FirstFault}
use Rattle.bpf_verifier.specs.declared.reading.ProgramError.TheVariants.{Refused}
use Rattle.bpf_verifier.proofs.OneReading.{answers_reading}
use Rattle.bpf_verifier.proofs.reading.read_program.Goals as goal

pub returns-in-Some-clause-only : goal.returns-in-Some-clause-only
returns-in-Some-clause-only c =
    let bytes = c.args.bytes.now in
    λ reading p. answers_reading c.args.sigs.now c.args.record_length bytes reading (Err (Refused c.code.result 0))
    (inl (subst (λ code. FirstFault bytes code 0) (sym c.code.ensures) c.in-Some.ensures.some)) p

pub returns-clause-only : goal.returns-clause-only
returns-clause-only c =
    λ reading p. answers_reading c.args.sigs.now c.args.record_length c.args.bytes.now reading c.program_of.result
    c.program_of.ensures p
