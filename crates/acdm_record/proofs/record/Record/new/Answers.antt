use Rattle.acdm_record.proofs.Kept.{empty_record}
use Rattle.acdm_record.proofs.record.Record.new.Goals as goal

pub invariant_of-record : goal.invariant_of-record
invariant_of-record c = empty_record
