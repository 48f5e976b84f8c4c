use Rattle.std.proofs.Common.{sym, ◌∙◌, ◌∷◌}
use Rattle.acdm_feed.proofs.Following.{same_flights, knows_flight, is_changed}
use Rattle.acdm_feed.proofs.known.Known.follow_flights.Goals as goal

pub returns-then-touches_all-clause-knows : goal.returns-then-touches_all-clause-knows
returns-then-touches_all-clause-knows c sigs J eq k =
    c.in_ok-read_all.ensures.knows sigs J (c.args.entry.now ∷ J) eq k
    (sym (same_flights J c.args.entry.now (sym c.touches_all.ensures ∙ c.if-touches_all.true)))

pub returns-in_ok-follow_flight-in-Some-clause-knows : goal.returns-in_ok-follow_flight-in-Some-clause-knows
returns-in_ok-follow_flight-in-Some-clause-knows c sigs J eq k =
    let changed = is_changed _ _ _ (sym c.flight_changed.ensures ∙ c.in-Some.is) in
    knows_flight J c.args.entry.now c.in-Some.flight c.args.self.now c.follow_flight.new.self
    (sym c.is_accepted.ensures ∙ c.if-not-is_accepted.false) changed.0 changed.1
    (c.in_ok-follow_flight-in-Some.ensures.puts sigs (c.args.entry.now ∷ J) eq) k
