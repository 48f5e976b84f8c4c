use Rattle.std.proofs.Common.{◌≡◌, ◌+◌, length}
use Rattle.acdm_tables.specs.Reading.{place_of}
use Rattle.acdm_tables.proofs.reading.place_of.Given as goal

abbrev pub invariant-loop-entry : goal.invariant-loop-entry
invariant-loop-entry l = record {
  place : l.place + place_of l.rest l.number ≡ place_of l.table l.number;
  inside : l.place + length l.rest ≡ length l.table;
}

abbrev pub decreases-loop-entry : goal.decreases-loop-entry
decreases-loop-entry l = length l.rest
