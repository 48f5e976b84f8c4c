use Rattle.std.proofs.Common.{◌≡◌, ◌+◌, [], map, refl, sym, ◌∙◌, rules}
use Rattle.std.specs.Vec.Iter.{into_iter_items}
use Rattle.acdm_sessions.specs.Sessions.{numbered, session_start}
use Rattle.acdm_sessions.proofs.Seats.{all_numbered, count_on, empty_of, few_so_far, len_of_all}
use Rattle.acdm_sessions.proofs.Seats.{none_numbered, part_less, parts_of_all, parts_so_far}
use Rattle.acdm_sessions.proofs.Seats.{room_so_far, taken_numbered}
use Rattle.acdm_sessions.proofs.sessions.seated.Goals as goal

pub loop-session-init : goal.loop-session-init
loop-session-init g c =
    let none : c.args.seats.items ≡ [] =
    empty_of c.args.seats.items (sym c.args.seats.ok.0 ∙ c.requires.room.0) in
    record {
      count = search rules;
      seats = c.requires.room.0;
      room = c.requires.room.1;
      parts = search rules;
      amount = search rules;
      places = none_numbered (λ s. (s.number, s.role)) (λ s. s.role) 1 c.args.seats.items
          (into_iter_items c.into_iter-session-iterator.result) c.args.sessions.items none
          c.into_iter-session-iterator.ensures.into_iter_gives.0;
      starts = none_numbered (λ s. (
        s.number,
        session_start s.role s.reader s.writer (g.C.Clock.gives s.caller.clock),
      )) (λ s. session_start s.role s.reader s.writer (g.C.Clock.gives s.clock)) 1
          c.args.seats.items (into_iter_items c.into_iter-session-iterator.result)
          c.args.sessions.items none c.into_iter-session-iterator.ensures.into_iter_gives.0;
    }

pub loop-session-preserved : goal.loop-session-preserved
loop-session-preserved g c =
    let n = c.loop-session.number in
    let before = c.loop-session.invariant in
    let one = c.in_ok-seat.seat in
    let given = c.in_ok-seat.ensures in
    let pushed = c.push_reserved.ensures in
    let steps = c.in-Some.ensures.steps in
    record {
      count = count_on n _ _ _ steps.1 before.count;
      seats = rw (pushed.len, before.seats) refl;
      room = rw pushed.capacity before.room;
      parts = part_less n c.seat_for.new.all.parts _ _ given.share.0 before.parts;
      amount = rw given.share.1 before.amount;
      places = taken_numbered (λ s. (s.number, s.role)) (λ s. s.role) (n + 1)
          c.loop-session.seats.items c.push_reserved.new.self.items one c.in-Some.session
          (into_iter_items c.loop-session.session-iterator) (into_iter_items c.next.new.self)
          (numbered 1 (map (λ s. s.role) c.args.sessions.items)) pushed.items steps.0
          (λ i. (given.place.0 i, given.place.1 i)) before.places;
      starts = taken_numbered (λ s. (
        s.number,
        session_start s.role s.reader s.writer (g.C.Clock.gives s.caller.clock),
      )) (λ s. session_start s.role s.reader s.writer (g.C.Clock.gives s.clock)) (n + 1)
          c.loop-session.seats.items c.push_reserved.new.self.items one c.in-Some.session
          (into_iter_items c.loop-session.session-iterator) (into_iter_items c.next.new.self)
          (numbered 1 (map (λ s. session_start s.role s.reader s.writer (g.C.Clock.gives s.clock))
          c.args.sessions.items)) pushed.items steps.0
          (λ i. (given.place.0 i, given.start i)) before.starts;
    }

pub seat_for-requires-clause-row : goal.seat_for-requires-clause-row
seat_for-requires-clause-row g c = c.requires.row

pub seat_for-requires-clause-number : goal.seat_for-requires-clause-number
seat_for-requires-clause-number g c =
    few_so_far c.loop-session.number _ _ _ c.in-Some.ensures.steps.1
    c.loop-session.invariant.count c.requires.few

pub seat_for-requires-clause-parts : goal.seat_for-requires-clause-parts
seat_for-requires-clause-parts g c =
    parts_so_far c.loop-session.number _ _ _ _ _ c.in-Some.ensures.steps.1
    c.loop-session.invariant.count c.loop-session.invariant.parts c.requires.parts

pub push_reserved-requires : goal.push_reserved-requires
push_reserved-requires g c =
    room_so_far c.loop-session.number _ _ _ _ _ c.in-Some.ensures.steps.1
    c.loop-session.invariant.count c.loop-session.invariant.seats c.loop-session.invariant.room

pub returns-clause-len : goal.returns-clause-len
returns-clause-len g c =
    len_of_all c.loop-session.number _ _ _ c.in-None.ensures.steps.0
    c.loop-session.invariant.count c.loop-session.invariant.seats

pub returns-clause-parts : goal.returns-clause-parts
returns-clause-parts g c =
    parts_of_all c.loop-session.number _ _ _ _ c.in-None.ensures.steps.0
    c.loop-session.invariant.count c.loop-session.invariant.parts

pub returns-clause-amount : goal.returns-clause-amount
returns-clause-amount g c = c.loop-session.invariant.amount

pub returns-clause-seats : goal.returns-clause-seats
returns-clause-seats g c =
    let it = c.loop-session.session-iterator in
    all_numbered (λ s. (s.number, s.role)) (λ s. s.role) (c.loop-session.number + 1)
    c.loop-session.seats.items it.rest.items
    (numbered 1 (map (λ s. s.role) c.args.sessions.items))
    (sym it.rest.ok.0 ∙ c.in-None.ensures.steps.0) c.loop-session.invariant.places

pub returns-clause-starts : goal.returns-clause-starts
returns-clause-starts g c =
    let it = c.loop-session.session-iterator in
    all_numbered (λ s. (
      s.number,
      session_start s.role s.reader s.writer (g.C.Clock.gives s.caller.clock),
    )) (λ s. session_start s.role s.reader s.writer (g.C.Clock.gives s.clock))
    (c.loop-session.number + 1) c.loop-session.seats.items it.rest.items
    (numbered 1 (map (λ s. session_start s.role s.reader s.writer (g.C.Clock.gives s.clock))
    c.args.sessions.items))
    (sym it.rest.ok.0 ∙ c.in-None.ensures.steps.0) c.loop-session.invariant.starts
