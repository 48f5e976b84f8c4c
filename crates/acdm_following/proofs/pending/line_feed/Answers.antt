use Rattle.acdm_lines.proofs.FirstFeed.{first_feed}
use Rattle.acdm_following.proofs.pending.line_feed.Goals as goal

pub returns-clause-place : goal.returns-clause-place
returns-clause-place c = first_feed c.args.text.now c.memchr.result c.memchr.ensures
