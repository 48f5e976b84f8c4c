use Rattle.acdm_displays.proofs.Viewing.{told_more}
use Rattle.acdm_displays.proofs.viewers.Viewers.tell.Goals as goal

pub returns-clause-told : goal.returns-clause-told
returns-clause-told g c = rw c.in_ok-more.ensures.row
    (told_more _ _ _ c.args.self.now.teller _ c.args.self.now.seen.watch.seen _ c.args.self.now.list.items _
    c.add_some.new.text.items (rw c.new-text.ensures.items at c.in_ok-more.ensures.added) c.requires.told
    (rw (c.as_slice.ensures.value, c.replace-list.ensures.value) at c.in_ok-self.ensures))
