use Rattle.std.proofs.Common.{◌≡◌}
use Rattle.acdm_web.proofs.hearing.first_wanted.Given as goal

abbrev pub invariant-loop : goal.invariant-loop
invariant-loop g l = l.bytes.items ≡ l.reader.log
