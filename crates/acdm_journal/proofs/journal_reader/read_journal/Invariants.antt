use Rattle.std.proofs.Common.{[]}
use Rattle.acdm_journal.proofs.journal_reader.read_journal.Given as goal

abbrev pub ghost-read_behind : goal.ghost-read_behind
ghost-read_behind g a = []
