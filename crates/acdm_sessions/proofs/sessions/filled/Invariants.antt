use Rattle.std.specs.Prelude.{◌≡◌, ◌+◌, ◌≤◌, ◌++◌, map, length}
use Rattle.std.specs.Vec.Iter.{into_iter_len, into_iter_items}
use Rattle.acdm_sessions.proofs.sessions.filled.Given as goal

abbrev pub invariant-loop-seat : goal.invariant-loop-seat
invariant-loop-seat g l =
    ((length l.crew.jobs + into_iter_len l.seat-iterator ≡ length l.fn.seats.items)
    × (length l.fn.seats.items ≤ l.crew.room))
    × (map (λ work. work.seat) l.crew.jobs ++ into_iter_items l.seat-iterator ≡ l.fn.seats.items)
