use Rattle.std.proofs.Common.{◌≡◌, ◌<◌, ◌^◌, drop}
use Rattle.acdm_wire.specs.Meant.{digits_from}
use Rattle.acdm_wire.proofs.head.natural_in.Given as goal

abbrev pub invariant-loop-byte : goal.invariant-loop-byte
invariant-loop-byte l = (digits_from l.number (drop l.byte-index l.word) ≡ digits_from 0 l.word)
    × (l.number < 10 ^ l.byte-index)
