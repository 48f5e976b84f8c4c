use Rattle.std.proofs.Common.{◌≡◌, ◌++◌, map, take, drop}
use Rattle.acdm_record.specs.Fields.{migrated}
use Rattle.acdm_step.proofs.by_flight.Flights.migrate_all.Given as goal

abbrev pub invariant-loop-place : goal.invariant-loop-place
invariant-loop-place l = l.self ≡ map migrated (take l.place l.initial.self)
    ++ drop l.place l.initial.self
