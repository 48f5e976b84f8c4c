use Rattle.std.proofs.Common.{refl}
use Rattle.acdm_watch.proofs.watch.Watch.advance.Goals.{in-Some+else-len, in_default}
use Rattle.acdm_watch.proofs.watch.Watch.advance.Goals as goal

pub returns-then-len-clause-pass : goal.returns-then-len-clause-pass
returns-then-len-clause-pass c = rw c.in-Some.is c.advance_with.ensures.pass

pub returns-clause-pass : goal.returns-clause-pass
returns-clause-pass c = elim c.match-pass.branch [
  | in-Some+else-len w ↦ rw w.in-Some.is (rw w.pass-is refl)
  | in_default w ↦ rw w.pass-is (rw w.in_default.is tt)
]
