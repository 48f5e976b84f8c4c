use Rattle.acdm_journal.specs.Text.{stated_in}
use Rattle.acdm_journal.proofs.OneLine.{stated_of-line, one_line}
use Rattle.acdm_journal.proofs.law.a_line_is_read_as_it_was_written.Goals as goal

pub returns : goal.returns
returns c = record {
  read_back = stated_of-line;
  entry = λ e is. stated_of-line (stated_in e) is;
  one = one_line;
}
