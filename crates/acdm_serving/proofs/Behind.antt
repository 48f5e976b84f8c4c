-- The sessions of partners, and behind them that of ticks.
use Rattle.std.proofs.Common.{◌≡◌, ℕ, ◌≤◌, Bool, List, [], ◌∷◌, ◌++◌, length, map, Option, Some, ap, sym, subst, ◌∙◌, arith}
use Rattle.std.specs.Prelude.{option_map}
use Rattle.acdm_milestones.specs.declared.role.Role.TheVariants.{AirportOperator}
use Rattle.std.proofs.Common.{append-nil, length-append}
use Rattle.std.proofs.lemmas.List.{map-append, length-map}
use Rattle.acdm_sessions.specs.Sessions.{SessionStart, new_session}
use Rattle.acdm_serving.specs.Partners.{starts_of, tick_starts}
use Rattle.acdm_serving.specs.declared.partners.Listener.{Listener}
use Rattle.acdm_serving.specs.declared.reconnecting.Ticking.{Ticking}

-- one session more, of which it is known how it starts
pub one_start : {S : Type 0} (start : S → SessionStart) (sessions later : List S) (session : S) (one : SessionStart)
    → later ≡ sessions ++ session ∷ [] → start session ≡ one → map start later ≡ map start sessions ++ one ∷ []
one_start start sessions later session one grown same =
    ap (map start) grown ∙ map-append start sessions (session ∷ [])
    ∙ ap (λ s. map start sessions ++ s ∷ []) same

-- the same of the session of a board's own ticks
pub ticks_start : {S C : Type 0} (start : S → SessionStart) (gives : C → ℕ → Bool) (sessions later : List S) (session : S)
    (ticks : Option (Ticking C)) (one : Ticking C) → ticks ≡ Some one → later ≡ sessions ++ session ∷ []
    → start session ≡ new_session AirportOperator (gives one.clock)
    → map start later ≡ map start sessions ++ tick_starts gives (option_map (λ t. t.clock) ticks)
ticks_start start gives sessions later session ticks one some grown same =
    subst (λ t. map start later ≡ map start sessions ++ tick_starts gives (option_map (λ x. x.clock) t)) (sym some)
    (one_start start sessions later session _ grown same)

-- what was made of each is what is asked, where none is left
pub none_left : {S P X : Type 0} (made : S → X) (asked : P → X) (done : List S) (rest : List P) (all : List X)
    → rest ≡ [] → map made done ++ map asked rest ≡ all → map made done ≡ all
none_left made asked done rest all none sofar =
    sym (append-nil (map made done)) ∙ ap (λ xs. map made done ++ map asked xs) (sym none) ∙ sofar

-- partners are no more than all sessions
pub few_partners : {C : Type 0} (gives : C → ℕ → Bool) (listeners : List (Listener C)) (ticks : Option C) (n : ℕ)
    → length (starts_of gives listeners ticks) ≤ n → length listeners ≤ n
few_partners gives listeners ticks n few =
    omega (
      arith,
      few,
      length-append (map (λ l. new_session l.role (gives l.clock)) listeners) (tick_starts gives ticks),
      length-map listeners (λ l. new_session l.role (gives l.clock)),
    )
