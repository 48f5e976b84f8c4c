use Rattle.acdm_displays.proofs.Viewing.{told_still}
use Rattle.acdm_displays.proofs.sharing.look_after.Goals as goal

pub returns-clause-told : goal.returns-clause-told
returns-clause-told g c = told_still _ _ _ _ _ c.args.viewers.now.list.items _ c.requires.told
    (rw c.replace-list.ensures.value at c.in_ok-viewers.ensures)
