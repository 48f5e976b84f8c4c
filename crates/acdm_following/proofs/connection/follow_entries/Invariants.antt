use Rattle.acdm_following.proofs.Coming.{SoFar}
use Rattle.acdm_following.proofs.connection.follow_entries.Given as goal

abbrev pub invariant-loop-reads_left : goal.invariant-loop-reads_left
invariant-loop-reads_left g l =
    SoFar l.name l.fn.desk l.desk l.fn.source l.source l.fn.hearing.pending l.hearing.pending l.reads_left

abbrev pub decreases-loop-reads_left : goal.decreases-loop-reads_left
decreases-loop-reads_left g l = l.reads_left
