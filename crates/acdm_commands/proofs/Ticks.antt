-- The board's own ticks, behind the partners that words name.
use Rattle.std.proofs.Common.{◌≡◌, ℕ, ◌+◌, ◌≤◌, Bool, true, false, List, length, map, Option, Some, None, option_map, is_some, arith, length-append, append-nil, sym, subst, refl}
use Rattle.std.proofs.lemmas.List.{length-map}
use Rattle.acdm_sessions.specs.Sessions.{new_session}
use Rattle.acdm_serving.specs.Partners.{starts_of, tick_starts}
use Rattle.acdm_serving.specs.declared.partners.Listener.{Listener}
use Rattle.acdm_commands.specs.Minutes.{is_minute}
use Rattle.acdm_board.specs.Desk.{DeskView}
use Rattle.acdm_lines.specs.Counted.{SinkView}
use Rattle.acdm_milestones.specs.declared.role.Role.{Role}
use Rattle.acdm_serving.specs.Partners.{Telling}
use Rattle.acdm_step.specs.Commands.{History}
use Rattle.acdm_commands.specs.Partners.{ServesPartners, ticking}

-- their session, where the words ask for it
pub ticking_by : {C T : Type 0} (clock : T → C) (ticks : Option T) (given : Bool)
    → is_some ticks ≡ given → tick_starts (λ _. is_minute) (option_map clock ticks) ≡ ticking given
ticking_by clock None false same = refl
ticking_by clock None true same = absurd (cc)
ticking_by clock (Some t) false same = absurd (cc)
ticking_by clock (Some t) true same = refl

-- partners and ticks are no more than they are together
pub few_in_all : {C : Type 0} (gives : C → ℕ → Bool) (partners : List (Listener C)) (ticks : Option C) (n : ℕ)
    → length partners + length (tick_starts gives ticks) ≤ n → length (starts_of gives partners ticks) ≤ n
few_in_all gives partners ticks n few =
    omega (
      arith,
      few,
      length-append (map (λ p. new_session p.role (gives p.clock)) partners) (tick_starts gives ticks),
      length-map partners (λ p. new_session p.role (gives p.clock)),
    )

-- where there are none, there are partners alone
pub without_ticks : {C T : Type 0} (gives : C → ℕ → Bool) (clock : T → C) (partners : List (Listener C))
    (ticks : Option T) → is_some ticks ≡ false
    → starts_of gives partners (option_map clock ticks) ≡ map (λ p. new_session p.role (gives p.clock)) partners
without_ticks gives clock partners None none = append-nil (map (λ p. new_session p.role (gives p.clock)) partners)
without_ticks gives clock partners (Some t) none = absurd (cc)

-- partners were served where there are none
pub serves_once : {W C T : Type 0} (gives : C → ℕ → Bool) (clock : T → C) (partners : List (Listener C))
    (ticks : Option T) → is_some ticks ≡ false → (desk : DeskView) (roles : List Role) (old new : SinkView W)
    (said : Telling) (Kept : History → Type 0)
    → ServesPartners desk roles (map (λ p. new_session p.role (gives p.clock)) partners) old new said Kept
    → ServesPartners desk roles (starts_of gives partners (option_map clock ticks)) old new said Kept
serves_once gives clock partners ticks none desk roles old new said Kept =
    subst (λ starts. ServesPartners desk roles starts old new said Kept)
    (sym (without_ticks gives clock partners ticks none))
