use Rattle.std.proofs.Common.{[], rules}
use Rattle.acdm_displays.specs.Displayed.{SaysJournal}
use Rattle.acdm_displays.proofs.Within.{took}
use Rattle.acdm_displays.proofs.Written.{nothing_saved}
use Rattle.acdm_displays.proofs.following.follow.Goals as goal

pub returns-clause-sent : goal.returns-clause-sent
returns-clause-sent g c =
    took SaysJournal _ _ c.args.writer.log c.shown_of.result c.send_on.new.seen.watch c.in_ok-seen.seen.extent
    c.send_on.new.seen.extent c.send_on.new.writer c.shown_of.ensures.watch c.shown_of.ensures.extent
    c.shown_of.ensures.writer (search rules) c.shown_of.ensures.legal
    (c.in_ok-send_on.ensures.sent record { before = c.args.writer.log; from = 0; room = 0; front = [] }
    (nothing_saved c.in_ok-seen.seen.watch.seen c.args.writer.log c.in_ok-seen.ensures.empty))
    c.in_ok-send_on.ensures.flushed c.in_ok-seen.ensures.kept c.in_ok-send_on.ensures.kept
    c.in_ok-send_on.ensures.within
