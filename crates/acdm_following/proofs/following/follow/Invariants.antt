use Rattle.acdm_following.proofs.Followed.{FollowsSoFar}
use Rattle.acdm_following.proofs.following.follow.Given as goal

abbrev pub invariant-loop-connections_left : goal.invariant-loop-connections_left
invariant-loop-connections_left g l =
    FollowsSoFar l.fn.desk l.desk (g.B.FirstBoard.course l.fn.board) (g.B.FirstBoard.course l.board)
    l.connections_left

abbrev pub decreases-loop-connections_left : goal.decreases-loop-connections_left
decreases-loop-connections_left g l = l.connections_left
