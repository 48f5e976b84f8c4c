use Rattle.std.proofs.Common.{◌+◌, length}
use Rattle.acdm_keeping.specs.Behind.{HandsOn, handed}
use Rattle.acdm_keeping.proofs.replies.hand_on.Given as goal

abbrev pub invariant-loop-writer : goal.invariant-loop-writer
invariant-loop-writer g l = HandsOn (handed l.fn.writer.log l.fn.held) (handed l.writer.log l.held)

abbrev pub decreases-loop-writer : goal.decreases-loop-writer
decreases-loop-writer g l = length l.held + l.signals_left
