use Rattle.std.proofs.Common.{◌≡◌, ◌++◌, ℕ, List, length}
use Rattle.std.specs.List.{flat_map}
use Rattle.acdm_wire.specs.Writes.{Wrote}
use Rattle.acdm_serving.specs.Partners.{session_text}
use Rattle.acdm_serving.proofs.partners.tell_sessions.Given as goal

abbrev pub invariant-loop-session : goal.invariant-loop-session
invariant-loop-session g l = record {
  done : List ℕ;
  wrote : Wrote l.initial.writer l.writer done;
  whole : done ++ flat_map (λ e. session_text e.number e.calls e.end e.torn) l.rest
      ≡ flat_map (λ e. session_text e.number e.calls e.end e.torn) l.sessions;
}

abbrev pub decreases-loop-session : goal.decreases-loop-session
decreases-loop-session g l = length l.rest
