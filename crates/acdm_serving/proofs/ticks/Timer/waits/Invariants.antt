use Rattle.std.proofs.Common.{◌≡◌}
use Rattle.acdm_serving.proofs.ticks.Timer.waits.Given as goal

abbrev pub invariant-loop : goal.invariant-loop
invariant-loop g l =
    (l.self.count ≡ l.initial.self.count) × (l.self.is_over ≡ l.initial.self.is_over)
