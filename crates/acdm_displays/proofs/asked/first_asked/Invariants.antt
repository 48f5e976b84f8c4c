use Rattle.std.proofs.Common.{◌≡◌, ◌≤◌, length}
use Rattle.acdm_displays.proofs.asked.first_asked.Given as goal

abbrev pub invariant-loop : goal.invariant-loop
invariant-loop g l = record {
  bound : l.count ≤ 32;
  room : length l.line ≡ 32;
}
