use Rattle.std.proofs.Common.{◌≡◌, ◌++◌, map, take, drop}
use Rattle.acdm_step.specs.Board.{touched}
use Rattle.acdm_step.proofs.by_flight.Flights.touch_all.Given as goal

abbrev pub invariant-loop-place : goal.invariant-loop-place
invariant-loop-place l = l.self ≡ map (touched l.moment) (take l.place l.initial.self)
    ++ drop l.place l.initial.self
