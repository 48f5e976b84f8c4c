use Rattle.std.proofs.Common.{◌≡◌, ap, length, rules, subst, ◌∙◌}
use Rattle.std.specs.Arc.{arc_value}
use Rattle.acdm_row.specs.Views.{RowView}
use Rattle.acdm_displays.specs.Displayed.{SaysFrom}
use Rattle.acdm_displays.proofs.Texts.{says_from}
use Rattle.acdm_displays.proofs.Within.{took}
use Rattle.acdm_displays.proofs.resuming.follow_from.Goals as goal

pub returns-clause-sent : goal.returns-clause-sent
returns-clause-sent g c =
    let same : c.deref.result.now ≡ arc_value c.args.entries.now.row.now = search rules in
    took _ _ _ c.args.writer.log c.shown_of.result c.send_on.new.seen.watch c.in_ok-seen.seen.extent
    c.send_on.new.seen.extent c.send_on.new.writer c.shown_of.ensures.watch c.shown_of.ensures.extent
    c.shown_of.ensures.writer (search rules) c.shown_of.ensures.legal
    (subst (λ n. SaysFrom n c.args.number c.send_on.new.seen.watch.seen c.args.writer.log c.send_on.new.writer.log)
    (c.len-room.ensures ∙ ap (λ (r : RowView). length r.cells) same)
    (says_from c.len-room.result c.send_on.new.teller.room c.args.number _ _ c.args.writer.log _ _ c.in_ok-begin_text.ensures.begins
    c.in_ok-send_on.ensures.sent))
    c.in_ok-send_on.ensures.flushed c.in_ok-seen.ensures.kept c.in_ok-send_on.ensures.kept
    c.in_ok-send_on.ensures.within
