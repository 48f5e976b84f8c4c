use Rattle.acdm_partners.specs.HeldLines.{IsEmptyRoom}
use Rattle.acdm_partners.proofs.line_queue.write_on.Given as goal

abbrev pub invariant-loop : goal.invariant-loop
invariant-loop g l = IsEmptyRoom l.text
