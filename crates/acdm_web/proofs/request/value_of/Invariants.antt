use Rattle.std.proofs.Common.{◌≡◌, All, length, map}
use Rattle.httparse.specs.Spans.{IsHeaderWithin, header_bytes}
use Rattle.acdm_web.specs.Wanted.{value_of}
use Rattle.acdm_web.proofs.request.value_of.Given as goal

abbrev pub invariant-loop-field : goal.invariant-loop-field
invariant-loop-field l =
    (value_of l.name (map (header_bytes l.bytes) l.rest) ≡ value_of l.name (map (header_bytes l.bytes) l.fields))
    × All (IsHeaderWithin (length l.bytes)) l.rest

abbrev pub decreases-loop-field : goal.decreases-loop-field
decreases-loop-field l = length l.rest
