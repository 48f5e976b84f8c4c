use Rattle.std.proofs.Common.{◌++◌}
use Rattle.acdm_keeping.proofs.Behind.{further, grows_on, on_any, sees_on}
use Rattle.acdm_keeping.proofs.keeper.gather_all.Goals as goal

pub returns-in_err-gather_next-clause-part : goal.returns-in_err-gather_next-clause-part
returns-in_err-gather_next-clause-part g c =
    on_any _ _ (further c.args.sight.now.entries c.loop.sight.entries c.gather_next.new.sight.entries
    (c.args.writer.now.log ++ c.args.text.now.items) (c.loop.writer.log ++ c.loop.text.items) _
    c.loop.invariant.sees c.loop.invariant.gathered c.in_err-gather_next.ensures.part)

pub returns-in_err-gather_next-clause-grows : goal.returns-in_err-gather_next-clause-grows
returns-in_err-gather_next-clause-grows g c =
    grows_on c.args.writer.now.log c.loop.writer.log _ c.loop.invariant.grows c.in_err-gather_next.ensures.grows

pub returns-after-loop-clause-grows : goal.returns-after-loop-clause-grows
returns-after-loop-clause-grows g c = c.loop.invariant.grows

pub returns-then-not-branch-clause-grows : goal.returns-then-not-branch-clause-grows
returns-then-not-branch-clause-grows g c =
    grows_on c.args.writer.now.log c.loop.writer.log _ c.loop.invariant.grows c.in_ok-gather_next.ensures.grows

pub returns-in_err-gather_next-clause-sees : goal.returns-in_err-gather_next-clause-sees
returns-in_err-gather_next-clause-sees g c =
    sees_on c.args.sight.now.entries c.loop.sight.entries _ c.loop.invariant.sees c.in_err-gather_next.ensures.sees

pub returns-after-loop-clause-sees : goal.returns-after-loop-clause-sees
returns-after-loop-clause-sees g c = c.loop.invariant.sees

pub returns-then-not-branch-clause-sees : goal.returns-then-not-branch-clause-sees
returns-then-not-branch-clause-sees g c =
    sees_on c.args.sight.now.entries c.loop.sight.entries _ c.loop.invariant.sees c.in_ok-gather_next.ensures.sees
