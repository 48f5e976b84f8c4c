use Rattle.std.proofs.Common.{ap, sym, ◌∙◌, ◌++◌, ◌∷◌, refl}
use Rattle.acdm_feed.proofs.Following.{is_changed}
use Rattle.acdm_feed.proofs.Finding.{tick_tokens, one_tokens}
use Rattle.acdm_feed.proofs.told.push_records.Goals as goal

pub returns-then-is_tick-clause-adds : goal.returns-then-is_tick-clause-adds
returns-then-is_tick-clause-adds c sigs J eq k =
    c.in_ok-push_ticked.ensures.adds sigs J (c.args.entry.now ∷ J) eq k
    ∙ ap (λ l. c.args.line.now.tokens ++ l)
    (tick_tokens J c.args.entry.now _ (sym c.is_accepted.ensures ∙ c.if-not-is_accepted.false)
    (sym c.is_tick.ensures ∙ c.if-is_tick.true) refl)

pub returns-in_ok-push_flight-in-Some-clause-adds :
    goal.returns-in_ok-push_flight-in-Some-clause-adds
returns-in_ok-push_flight-in-Some-clause-adds c sigs J eq k =
    let changed = is_changed _ _ _ (sym c.flight_changed.ensures ∙ c.in-Some.is) in
    c.in_ok-push_flight-in-Some.ensures.adds sigs (c.args.entry.now ∷ J) eq
    ∙ ap (λ l. c.args.line.now.tokens ++ l)
    (one_tokens J c.args.entry.now c.in-Some.flight
    (sym c.is_accepted.ensures ∙ c.if-not-is_accepted.false)
    (sym c.is_tick.ensures ∙ c.if-is_tick.false) changed.0 changed.1)
