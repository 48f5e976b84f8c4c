use Rattle.std.proofs.Common.{◌≡◌, [], sym, ◌∙◌}
use Rattle.std.specs.Vec.Iter.{into_iter_items}
use Rattle.acdm_sessions.proofs.Seats.{empty_of}
use Rattle.acdm_sessions.specs.Sessions.{new_session, session_start}
use Rattle.acdm_serving.proofs.Behind.{none_left}
use Rattle.acdm_serving.proofs.partners.accept_all.Goals as goal

pub returns-clause-roles : goal.returns-clause-roles
returns-clause-roles g c =
    let it = c.loop-listener.listener-iterator in
    let none : into_iter_items it ≡ [] =
    empty_of it.rest.items (sym it.rest.ok.0 ∙ c.in-None.ensures.steps.0) in
    none_left (λ s. s.role) (λ p. p.role)
    c.loop-listener.sessions.items _ _ none c.loop-listener.invariant.roles

pub returns-clause-starts : goal.returns-clause-starts
returns-clause-starts g c =
    let it = c.loop-listener.listener-iterator in
    let none : into_iter_items it ≡ [] =
    empty_of it.rest.items (sym it.rest.ok.0 ∙ c.in-None.ensures.steps.0) in
    none_left (λ s. session_start s.role s.reader s.writer (g.C.Clock.gives s.clock)) (λ p. new_session p.role (g.C.Clock.gives p.clock))
    c.loop-listener.sessions.items _ _ none c.loop-listener.invariant.starts
