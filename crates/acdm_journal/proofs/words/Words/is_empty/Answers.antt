use Rattle.acdm_journal.proofs.Splitting.{some_word}
use Rattle.acdm_journal.proofs.words.Words.is_empty.Goals as goal

pub returns-clause-some : goal.returns-clause-some
returns-clause-some c =
    λ more. some_word c.self.inside.ended c.self.inside.rest.now c.args.self.now more c.self.view_is
