use Rattle.std.proofs.Common.{◌≡◌, length}
use Rattle.acdm_partners.specs.FirstLine.{has_line_feed}
use Rattle.acdm_partners.proofs.first_line.has_line_feed.Given as goal

abbrev pub invariant-loop-byte : goal.invariant-loop-byte
invariant-loop-byte l = has_line_feed l.rest ≡ has_line_feed l.text

abbrev pub decreases-loop-byte : goal.decreases-loop-byte
decreases-loop-byte l = length l.rest
