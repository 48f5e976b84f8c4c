use Rattle.std.proofs.Common.{length, subst, sym, ◌∙◌}
use Rattle.acdm_displays.proofs.Viewing.{joined, told_one}
use Rattle.acdm_displays.proofs.viewers.Viewers.join.Goals as goal

pub returns-clause-told : goal.returns-clause-told
returns-clause-told g c =
    let head = g.T.Sharing.head in
    let seen = c.args.self.now.seen.watch.seen in
    let first = c.in_ok-begin.ensures.begins (length c.args.self.now.seen.watch.row.cells) c.requires.told.known head in
    told_one g.T.Telling.tells (g.T.Sharing.begun head) _ c.args.self.now.teller seen c.args.self.now.list.items _
    c.hand-2.new.self c.requires.told (
      first.0,
      subst (λ s. g.T.Sharing.begun head s first.0) (c.start.ensures ∙ sym c.in_ok-hand-2.ensures.start) first.1,
      first.2,
      c.in_ok-hand-2.ensures.flushed,
      subst (λ l. g.T.Telling.tells c.args.self.now.teller seen first.0 l)
          (sym (joined head c.begin.new.text.items c.args.viewer.log c.args.viewer.waiting _ _ _ _
          c.in_ok-hand.ensures.handed c.requires.log c.requires.waiting
          (c.as_slice.ensures.value ∙ c.in_ok-add_head.ensures.head) c.in_ok-hand-2.ensures.handed
          c.as_slice-2.ensures.value)) first.3,
    )
    c.in_ok-push.ensures.items
