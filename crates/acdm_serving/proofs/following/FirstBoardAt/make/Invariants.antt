use Rattle.std.proofs.Common.{◌≡◌}
use Rattle.acdm_serving.proofs.following.FirstBoardAt.make.Given as goal

abbrev pub invariant-loop : goal.invariant-loop
invariant-loop g l = l.self.course ≡ l.initial.self.course
