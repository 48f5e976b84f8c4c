use Rattle.std.proofs.Common.{◌≡◌, ◌≤◌, ◌+◌, ℕ, List, ◌++◌, length, map}
use Rattle.acdm_milestones.specs.declared.role.Role.{Role}
use Rattle.acdm_wire.specs.Writes.{Wrote}
use Rattle.acdm_serving.specs.Partners.{listens_text}
use Rattle.acdm_serving.proofs.partners.announce.Given as goal

abbrev pub invariant-loop-listener : goal.invariant-loop-listener
invariant-loop-listener g l = record {
  listeners : List (Role × List ℕ);
  roles : map (λ p. p.0) listeners ++ map (λ q. q.role) l.rest ≡ map (λ q. q.role) l.listeners;
  wrote : Wrote l.initial.writer l.writer (listens_text 1 listeners);
  count : l.number ≡ 1 + length listeners;
  few : l.number + length l.rest ≤ 65;
}

abbrev pub decreases-loop-listener : goal.decreases-loop-listener
decreases-loop-listener g l = length l.rest
