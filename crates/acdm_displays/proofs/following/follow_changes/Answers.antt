use Rattle.std.proofs.Common.{◌≡◌, ap, length, rules, subst, sym, ◌∙◌}
use Rattle.std.specs.Arc.{arc_value}
use Rattle.acdm_row.specs.Views.{RowView}
use Rattle.acdm_displays.specs.Displayed.{SaysFeed, TellsFrom}
use Rattle.acdm_displays.proofs.Within.{took, within_shown}
use Rattle.acdm_displays.proofs.Written.{says_feed}
use Rattle.acdm_displays.proofs.following.follow_changes.Goals as goal

pub send_first-requires-clause-knows : goal.send_first-requires-clause-knows
send_first-requires-clause-knows g c =
    let k = c.new-teller.ensures in (
      c.len.result,
      c.in_ok-pass_to_start.ensures.passed c.len.result (
        k.0,
        k.1,
        k.2,
        subst (λ s. TellsFrom c.new-teller.result.known c.new-teller.result.room s k.0 k.1)
            (sym c.in_ok-seen.ensures.empty) k.3,
      ),
    )

pub send_on-requires-clause-within : goal.send_on-requires-clause-within
send_on-requires-clause-within g c =
    within_shown c.in_ok-seen.seen.extent c.most_shown-most.result c.in_ok-seen.seen.watch.seen
    c.pass_to_start.new.watch.seen c.most_shown-most.ensures c.in_ok-seen.ensures.empty
    c.in_ok-pass_to_start.ensures.within

pub returns-clause-sent : goal.returns-clause-sent
returns-clause-sent g c =
    let same : c.deref.result.now ≡ arc_value c.args.entries.now.row.now = search rules in
    let k = c.new-teller.ensures in
    let known = c.in_ok-pass_to_start.ensures.passed c.len.result (
      k.0,
      k.1,
      k.2,
      subst (λ s. TellsFrom c.new-teller.result.known c.new-teller.result.room s k.0 k.1)
          (sym c.in_ok-seen.ensures.empty) k.3,
    ) in
    let first = c.in_ok-send_first.ensures.begins c.len.result known in
    let t = c.in_ok-send_on.ensures.sent first.0 first.3 in
    took _ _ _ c.args.writer.log c.shown_of.result c.send_on.new.seen.watch c.in_ok-seen.seen.extent
    c.send_on.new.seen.extent c.send_on.new.writer c.shown_of.ensures.watch c.shown_of.ensures.extent
    c.shown_of.ensures.writer (search rules) c.shown_of.ensures.legal
    (subst (λ n. SaysFeed n c.args.start c.send_on.new.seen.watch.seen c.args.writer.log c.send_on.new.writer.log)
    (t.room_is ∙ first.2 ∙ c.len.ensures ∙ ap (λ (r : RowView). length r.cells) same)
    (says_feed _ c.args.start _ _ c.args.writer.log _ first.0 first.1 t))
    c.in_ok-send_on.ensures.flushed c.in_ok-seen.ensures.kept c.in_ok-send_on.ensures.kept
    c.in_ok-send_on.ensures.within
