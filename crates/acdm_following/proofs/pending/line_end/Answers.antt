use Rattle.std.proofs.Common.{sym}
use Rattle.acdm_lines.proofs.Feeds.{feed_found, feed_missing}
use Rattle.acdm_following.proofs.pending.line_end.Goals as goal

pub returns-in-Some : goal.returns-in-Some
returns-in-Some c =
    let f = feed_found c.args.text.now c.in-Some.end (sym c.in-Some.ensures.place) c.in-Some.ensures.inside in
    (c.in-Some.ensures.inside, f.before, f.split)

pub returns-in-None : goal.returns-in-None
returns-in-None c = feed_missing c.args.text.now (sym c.in-None.ensures.place)
