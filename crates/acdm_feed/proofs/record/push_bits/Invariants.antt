use Rattle.std.proofs.Common.{◌≡◌, ◌++◌, true, nat_le, length}
use Rattle.std.specs.List.{flat_map, list_all}
use Rattle.acdm_feed.specs.Records.{reached_token}
use Rattle.acdm_feed.proofs.record.push_bits.Given as goal

abbrev pub invariant-loop-bit : goal.invariant-loop-bit
invariant-loop-bit l = record {
  few : list_all (λ b. nat_le b 16) l.rest ≡ true;
  before : l.line.before ≡ l.fn.line.before;
  adds : l.line.tokens ++ flat_map (reached_token l.record) l.rest
      ≡ l.fn.line.tokens ++ flat_map (reached_token l.record) l.bits;
}

abbrev pub decreases-loop-bit : goal.decreases-loop-bit
decreases-loop-bit l = length l.rest
