use Rattle.acdm_feed.proofs.Heading.{named_text}
use Rattle.acdm_feed.proofs.standing.push_journal.Goals as goal

pub returns : goal.returns
returns c = λ J k. named_text c.args.next c.args.room J _ _ _ (c.name.ensures J k) c.in_ok-push_journal_named.ensures
