use Rattle.std.proofs.Common.{◌≡◌, [], sym, ◌∙◌}
use Rattle.std.specs.Vec.Iter.{into_iter_items}
use Rattle.acdm_sessions.proofs.Seats.{empty_of}
use Rattle.acdm_sessions.specs.Sessions.{new_session}
use Rattle.acdm_serving.proofs.Behind.{none_left}
use Rattle.acdm_serving.proofs.partners.listeners_of.Goals as goal

pub returns-clause-roles : goal.returns-clause-roles
returns-clause-roles g c =
    let it = c.loop-partner.partner-iterator in
    let none : into_iter_items it ≡ [] =
    empty_of it.rest.items (sym it.rest.ok.0 ∙ c.in-None.ensures.steps.0) in
    none_left (λ s. s.role) (λ p. p.0)
    c.loop-partner.listeners.items _ _ none c.loop-partner.invariant.roles

pub returns-clause-starts : goal.returns-clause-starts
returns-clause-starts g c =
    let it = c.loop-partner.partner-iterator in
    let none : into_iter_items it ≡ [] =
    empty_of it.rest.items (sym it.rest.ok.0 ∙ c.in-None.ensures.steps.0) in
    none_left (λ l. new_session l.role (g.C.Clock.gives l.clock)) (λ p. new_session p.0 (g.C.Clock.gives p.2))
    c.loop-partner.listeners.items _ _ none c.loop-partner.invariant.starts
