use Rattle.std.proofs.Common.{◌≤◌, ◌+◌, ◌-◌, arith}
use Rattle.acdm_following.proofs.Followed.{fails_there, follows_more, goes_on, grows_then}
use Rattle.acdm_following.proofs.following.follow.Goals as goal

pub returns-in-Failed-clause-followed : goal.returns-in-Failed-clause-followed
returns-in-Failed-clause-followed g c =
    fails_there c.args.desk.now c.loop-connections_left.desk c.follow_one-why.new.desk
    (g.B.FirstBoard.course c.args.board.now) (g.B.FirstBoard.course c.loop-connections_left.board)
    (g.B.FirstBoard.course c.connect.new.self) (g.B.FirstBoard.course c.part.new.self)
    c.loop-connections_left.connections_left c.len.result c.follow_one-why.new.source.faults
    c.follow_one-why.new.source.log c.follow_one-why.new.source.ended c.follow_one-why.result
    c.loop-connections_left.invariant c.in-Some.ensures (rw c.of-given.ensures at c.part.ensures) c.len.ensures c.follow_one-why.ensures c.in-Failed.failure
    c.in-Failed.is

pub returns-in-Failed-clause-grows : goal.returns-in-Failed-clause-grows
returns-in-Failed-clause-grows g c =
    grows_then c.args.desk.now c.loop-connections_left.desk c.follow_one-why.new.desk
    (g.B.FirstBoard.course c.args.board.now) (g.B.FirstBoard.course c.loop-connections_left.board)
    (g.B.FirstBoard.course c.connect.new.self) (g.B.FirstBoard.course c.part.new.self)
    c.loop-connections_left.connections_left c.len.result c.follow_one-why.new.source.faults
    c.follow_one-why.new.source.log c.follow_one-why.new.source.ended c.follow_one-why.result
    c.loop-connections_left.invariant c.in-Some.ensures (rw c.of-given.ensures at c.part.ensures) c.len.ensures c.follow_one-why.ensures

pub loop-connections_left-preserved : goal.loop-connections_left-preserved
loop-connections_left-preserved g c =
    let less : c.loop-connections_left.connections_left ≤ c.loop-connections_left.connections_left - 1 + 1 =
    omega arith in
    follows_more c.args.desk.now c.loop-connections_left.desk c.follow_one-why.new.desk
    (g.B.FirstBoard.course c.args.board.now) (g.B.FirstBoard.course c.loop-connections_left.board)
    (g.B.FirstBoard.course c.connect.new.self) (g.B.FirstBoard.course c.part.new.self)
    c.loop-connections_left.connections_left c.len.result c.follow_one-why.new.source.faults
    c.follow_one-why.new.source.log c.follow_one-why.new.source.ended c.follow_one-why.result
    c.loop-connections_left.invariant c.in-Some.ensures (rw c.of-given.ensures at c.part.ensures) c.len.ensures c.follow_one-why.ensures
    (c.loop-connections_left.connections_left - 1) less (goes_on c.follow_one-why.result c.in_default-why.not-Failed)
    c.core-core-in-loop-connections_left.ensures.legal
