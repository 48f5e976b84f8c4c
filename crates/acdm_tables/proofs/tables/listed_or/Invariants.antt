use Rattle.std.proofs.Common.{◌≡◌, length}
use Rattle.acdm_tables.specs.Helpers.{listed_or}
use Rattle.acdm_tables.proofs.tables.listed_or.Given as goal

abbrev pub invariant-loop-entry : goal.invariant-loop-entry
invariant-loop-entry l = listed_or l.other l.rest l.key ≡ listed_or l.other l.table l.key

abbrev pub decreases-loop-entry : goal.decreases-loop-entry
decreases-loop-entry l = length l.rest
