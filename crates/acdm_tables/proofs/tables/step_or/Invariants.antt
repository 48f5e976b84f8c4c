use Rattle.std.proofs.Common.{◌≡◌, length}
use Rattle.acdm_tables.specs.Helpers.{step_or}
use Rattle.acdm_tables.proofs.tables.step_or.Given as goal

abbrev pub invariant-loop-step : goal.invariant-loop-step
invariant-loop-step l = step_or l.found l.rest l.stand ≡ step_or l.minutes l.steps l.stand

abbrev pub decreases-loop-step : goal.decreases-loop-step
decreases-loop-step l = length l.rest
