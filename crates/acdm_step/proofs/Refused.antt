-- A refused entry changes nothing.
use Rattle.std.proofs.Common.{◌≡◌, ℕ, Bool, false, ◌&&◌, cond, List, ◌∷◌, map, Some, None, ap}
use Rattle.bpf_helpers.specs.Promise.{Promise}
use Rattle.acdm_milestones.specs.declared.milestone.Milestone.{Milestone}
use Rattle.acdm_slots.specs.declared.kind.Kind.{Kind}
use Rattle.acdm_step.specs.declared.entry.Entry.{Entry}
use Rattle.acdm_step.specs.Commands.{History, creates, flight_of, is_accepted}
use Rattle.acdm_step.specs.InSlots.{changed_or, judged_again, program_in, slot_change}
use Rattle.acdm_step.specs.Summaries.{flights, record_of, with_flight}
use Rattle.acdm_step.specs.History.{replay}
use Rattle.acdm_step.proofs.Records.{record_same}
use Rattle.acdm_step.proofs.Replay.{refused-slots}

no_and : (a b : Bool) → a ≡ false → (a && b) ≡ false
no_and a b none = ap (λ x. x && b) none

pub refused_record : (J : History) (e : Entry) → is_accepted e.verdict ≡ false → (flight : ℕ)
    → record_of (e ∷ J) flight ≡ record_of J flight
refused_record J e none flight =
    record_same e J flight (no_and (is_accepted e.verdict) _ none)
    (no_and (is_accepted e.verdict) _ none) (no_and (is_accepted e.verdict) _ none)

pub refused_flights : (J : History) (e : Entry) → is_accepted e.verdict ≡ false
    → flights (e ∷ J) ≡ flights J
refused_flights J e none =
    ap (λ b. with_flight (flights J)
    (cond (b && creates e.command) (Some (flight_of e.command)) None)) none

pub refused_slot : (J : History) (e : Entry) → is_accepted e.verdict ≡ false → (m : Milestone)
    (kind : Kind) → program_in (e ∷ J) m kind ≡ program_in J m kind
refused_slot J e none m kind =
    ap (λ b. cond b (changed_or (slot_change m kind e.command)
    (judged_again e.command (program_in J m kind))) (program_in J m kind)) none

pub refused_board : (sigs : List (ℕ × Promise)) (J : History) (e : Entry)
    → is_accepted e.verdict ≡ false → replay sigs (e ∷ J) ≡ replay sigs J
refused_board sigs J e none =
    let records = refused_record J e none in
    let all = refused_flights J e none in
    let slots = refused-slots sigs e J none in
    λ i. record { records = map (λ flight. records flight i) (all i); slots = slots i }
