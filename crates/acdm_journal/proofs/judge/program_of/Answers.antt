use Rattle.std.proofs.Common.{List, refl}
use Rattle.bpf_decode.specs.declared.op.Op.{Op}
use Rattle.acdm_journal.proofs.Refusals.{none_accepted}
use Rattle.acdm_journal.proofs.judge.program_of.Goals as goal

pub returns-in-Err-Refused : goal.returns-in-Err-Refused
returns-in-Err-Refused c = (
  refl,
  λ (ops : List Op) encoded accepted.
      none_accepted c.args.sigs.now c.args.load.now.record_length c.as_slice.result.now c.read_program.result
      c.in-Err-Refused.field-0 c.in-Err-Refused.field-0-0 c.in-Err-Refused.field-0-1
      c.in-Err-Refused.is c.in-Err-Refused.field-0-is c.read_program.ensures.only ops
      (rw c.as_slice.ensures encoded) accepted,
)
