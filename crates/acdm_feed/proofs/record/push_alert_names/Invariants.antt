use Rattle.std.proofs.Common.{◌≡◌, ◌++◌, true, nat_lt, length}
use Rattle.std.specs.List.{flat_map, list_all}
use Rattle.acdm_feed.specs.Records.{alert_token}
use Rattle.acdm_feed.proofs.record.push_alert_names.Given as goal

abbrev pub invariant-loop-bit : goal.invariant-loop-bit
invariant-loop-bit l = record {
  few : list_all (λ b. nat_lt b 32) l.rest ≡ true;
  before : l.line.before ≡ l.fn.line.before;
  adds : l.line.tokens ++ flat_map (alert_token l.word) l.rest
      ≡ l.fn.line.tokens ++ flat_map (alert_token l.word) l.bits;
}

abbrev pub decreases-loop-bit : goal.decreases-loop-bit
decreases-loop-bit l = length l.rest
