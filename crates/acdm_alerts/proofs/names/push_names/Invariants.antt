use Rattle.std.proofs.Common.{◌≡◌, ◌≤◌, ◌++◌, ◌-◌, ℕ, List}
use Rattle.acdm_alerts.proofs.NameTexts.{Named}
use Rattle.acdm_alerts.proofs.names.push_names.Given as goal

abbrev pub invariant-loop-bit : goal.invariant-loop-bit
invariant-loop-bit g l = record {
  bytes : List ℕ;
  inside : l.bit ≤ 32;
  there : l.text.items ≡ l.initial.text.items ++ bytes;
  named : Named bytes l.is_first l.word l.bit;
}

abbrev pub decreases-loop-bit : goal.decreases-loop-bit
decreases-loop-bit g l = 32 - l.bit
