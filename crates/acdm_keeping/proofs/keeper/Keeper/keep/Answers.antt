use Rattle.std.proofs.Common.{subst}
use Rattle.acdm_keeping.specs.Kept.{AtAnyMoment, KeeperView, Keeps}
use Rattle.acdm_keeping.proofs.Behind.{all_of, at_any_moment, grows_not, sees_not}
use Rattle.acdm_keeping.proofs.keeper.Keeper.keep.Goals as goal

pub returns-clause-kept : goal.returns-clause-kept
returns-clause-kept g c =
    subst (λ (k : KeeperView g.row.W.Denot). Keeps k.seen c.send_all-sent.new.sight.entries k.writer.log
    c.send_all-sent.new.writer.log) c.self.view_is c.in-Ok.ensures.sent

pub returns-then-self-clause-any_moment : goal.returns-then-self-clause-any_moment
returns-then-self-clause-any_moment g c =
    at_any_moment _ _ _ _ (grows_not _) (all_of _ _ _ _ (sees_not _) (λ before start saves. saves))

pub returns-in-Err-clause-any_moment : goal.returns-in-Err-clause-any_moment
returns-in-Err-clause-any_moment g c =
    subst (λ (k : KeeperView g.row.W.Denot). AtAnyMoment k.seen c.send_all-sent.new.sight.entries k.writer.log
    c.send_all-sent.new.writer.log) c.self.view_is
    (at_any_moment _ _ _ _ c.in-Err.ensures.grows c.in-Err.ensures.part)

pub returns-clause-any_moment : goal.returns-clause-any_moment
returns-clause-any_moment g c =
    subst (λ (k : KeeperView g.row.W.Denot). AtAnyMoment k.seen c.send_all-sent.new.sight.entries k.writer.log
    c.send_all-sent.new.writer.log) c.self.view_is
    (at_any_moment _ _ _ _ c.in-Ok.ensures.grows (all_of _ _ _ _ c.in-Ok.ensures.sees c.in-Ok.ensures.sent))
