use Rattle.bpf_decode.proofs.ProgramLemmas.{first_is_no_tail, tail_follows_wide}
use Rattle.bpf_decode.proofs.ProgramLemmas.{slot_can_be_encoded}
use Rattle.bpf_decode.proofs.law.program_is_well_formed.Goals as goal

pub returns-clause-first : goal.returns-clause-first
returns-clause-first c = first_is_no_tail

pub returns-clause-tails : goal.returns-clause-tails
returns-clause-tails c = tail_follows_wide

pub returns-clause-slots : goal.returns-clause-slots
returns-clause-slots c = slot_can_be_encoded
