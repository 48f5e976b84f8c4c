use Rattle.std.specs.Prelude.{◌≡◌, ◌+◌, ◌≤◌, ◌++◌, map, vec_len, vec_capacity}
use Rattle.std.specs.Vec.Iter.{into_iter_len, into_iter_items}
use Rattle.acdm_sessions.specs.Sessions.{numbered, session_start}
use Rattle.acdm_sessions.proofs.sessions.seated.Given as goal

abbrev pub invariant-loop-session : goal.invariant-loop-session
invariant-loop-session g l = record {
  count : l.number + into_iter_len l.session-iterator ≡ vec_len l.fn.sessions;
  seats : vec_len l.seats ≡ l.number;
  room : vec_len l.fn.sessions ≤ vec_capacity l.seats;
  parts : l.all.parts + l.number ≡ l.fn.all.parts;
  amount : l.all.amount ≡ l.fn.all.amount;
  places : map (λ s. (s.number, s.role)) l.seats.items
      ++ numbered (l.number + 1) (map (λ s. s.role) (into_iter_items l.session-iterator))
      ≡ numbered 1 (map (λ s. s.role) l.fn.sessions.items);
  starts : map (λ s. (
    s.number,
    session_start s.role s.reader s.writer (g.C.Clock.gives s.caller.clock),
  ))
      l.seats.items
      ++ numbered (l.number + 1) (map (λ s. session_start s.role s.reader s.writer (g.C.Clock.gives s.clock))
      (into_iter_items l.session-iterator))
      ≡ numbered 1 (map (λ s. session_start s.role s.reader s.writer (g.C.Clock.gives s.clock))
      l.fn.sessions.items);
}
