use Rattle.std.specs.Prelude.{◌≡◌, ◌+◌, ◌≤◌, ◌++◌, map, vec_len, vec_capacity}
use Rattle.std.specs.Vec.Iter.{into_iter_len, into_iter_items}
use Rattle.acdm_sessions.specs.Sessions.{new_session, session_start}
use Rattle.acdm_serving.proofs.partners.accept_all.Given as goal

abbrev pub invariant-loop-listener : goal.invariant-loop-listener
invariant-loop-listener g l = record {
  count : vec_len l.sessions + into_iter_len l.listener-iterator ≡ vec_len l.fn.listeners;
  room : vec_len l.fn.listeners ≤ vec_capacity l.sessions;
  roles : map (λ s. s.role) l.sessions.items
      ++ map (λ q. q.role) (into_iter_items l.listener-iterator)
      ≡ map (λ q. q.role) l.fn.listeners.items;
  starts : map (λ s. session_start s.role s.reader s.writer (g.C.Clock.gives s.clock))
      l.sessions.items
      ++ map (λ q. new_session q.role (g.C.Clock.gives q.clock)) (into_iter_items l.listener-iterator)
      ≡ map (λ q. new_session q.role (g.C.Clock.gives q.clock)) l.fn.listeners.items;
}
