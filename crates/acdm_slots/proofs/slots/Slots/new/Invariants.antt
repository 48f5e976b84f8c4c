use Rattle.std.proofs.Common.{◌≡◌, replicate, None}
use Rattle.acdm_slots.proofs.slots.Slots.new.Given as goal

abbrev pub invariant-loop : goal.invariant-loop
invariant-loop l = l.programs.items ≡ replicate l.counter None
