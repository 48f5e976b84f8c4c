use Rattle.std.specs.Prelude.{◌≡◌, ◌+◌, ◌≤◌, ◌++◌, map, vec_len, vec_capacity}
use Rattle.std.specs.Vec.Iter.{into_iter_len, into_iter_items}
use Rattle.acdm_sessions.specs.Sessions.{new_session}
use Rattle.acdm_serving.proofs.partners.listeners_of.Given as goal

abbrev pub invariant-loop-partner : goal.invariant-loop-partner
invariant-loop-partner g l = record {
  count : vec_len l.listeners + into_iter_len l.partner-iterator ≡ vec_len l.fn.partners;
  room : vec_len l.fn.partners ≤ vec_capacity l.listeners;
  roles : map (λ q. q.role) l.listeners.items ++ map (λ p. p.0) (into_iter_items l.partner-iterator)
      ≡ map (λ p. p.0) l.fn.partners.items;
  starts : map (λ q. new_session q.role (g.C.Clock.gives q.clock)) l.listeners.items
      ++ map (λ p. new_session p.0 (g.C.Clock.gives p.2)) (into_iter_items l.partner-iterator)
      ≡ map (λ p. new_session p.0 (g.C.Clock.gives p.2)) l.fn.partners.items;
}
