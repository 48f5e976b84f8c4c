use Rattle.std.proofs.Common.{◌≡◌, ◌+◌, ◌++◌, subst}
use Rattle.acdm_displays.specs.Viewing.{ViewerView, behind}
use Rattle.acdm_displays.proofs.Viewing.{sent_some}
use Rattle.acdm_displays.proofs.viewers.Viewer.send.Goals as goal

pub returns-clause-sent : goal.returns-clause-sent
returns-clause-sent g c =
    subst (λ (v : ViewerView). c.write_some.new.writer.log
    ++ behind (c.self.inside.taken + c.in_ok-taken.taken) c.self.inside.waiting.items ≡ v.log ++ v.waiting)
    c.self.view_is
    (sent_some c.self.inside.writer.log c.write_some.new.writer.log c.self.inside.waiting.items c.as_slice.result.now
    c.self.inside.taken c.in_ok-taken.taken c.in_ok-taken.ensures.log c.as_slice.ensures.value)
