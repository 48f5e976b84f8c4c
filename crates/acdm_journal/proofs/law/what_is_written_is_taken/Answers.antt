use Rattle.acdm_journal.proofs.Taken.{taken_whole, taken_well, each_readable}
use Rattle.acdm_journal.proofs.law.what_is_written_is_taken.Goals as goal

pub returns : goal.returns
returns c = record {
  count = λ sigs J saved log log_after ended n legal saves of.
      taken_whole sigs J saved log log_after ended legal saves of n;
  no_fault = λ sigs J saved log log_after ended entry clause legal saves of.
      taken_well sigs J saved log log_after ended legal saves of entry clause;
  readable = λ sigs J old new. each_readable sigs J old new;
}
