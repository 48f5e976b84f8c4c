-- How the following of another board fails.
use Rattle.acdm_failures.specs.declared.failure.Failure.{Failure}
use Rattle.acdm_failures.specs.declared.failure.Failure.TheVariants.{Keep, Memory, Room}

-- no more can be kept, there is no place for an entry that came, or memory was refused
abbrev pub FailsToFollow : Failure → Type 0
FailsToFollow Keep = Unit {0}
FailsToFollow Room = Unit {0}
FailsToFollow Memory = Unit {0}
FailsToFollow failure = ⊥
