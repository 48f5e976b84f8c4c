-- What the local programs of a report say (this project's profile). Both get the record with what
-- the report assigns; the second one also with what came of the first.
use Rattle.std.specs.Prelude.{ℕ, ◌+◌, ◌%◌, ◌^◌, Bool, true, false, not, ◌&&◌, ◌==◌, nat_le, nat_lt}
use Rattle.std.specs.Prelude.{if◌then◌else◌, List, Option, Some, None, option_map, option_and_then}
use Rattle.acdm_record.specs.declared.field.Field.TheVariants.{Alerts, Tobt, Asat}
use Rattle.acdm_record.specs.Fields.{Fields, number_of, set_number, bytes_of}
use Rattle.acdm_milestones.specs.declared.milestone.Milestone.TheVariants.{TobtUpdate}
use Rattle.acdm_milestones.specs.Tables.{number, marked, is_set}
use Rattle.acdm_alerts.specs.Decided.{with_rejection, with_locals}
use Rattle.bpf_verifier.specs.Verdict.{Verified}
use Rattle.bpf_semantics.specs.Runs.{result_of}
use Rattle.acdm_step.specs.declared.command.TheConstants.{MINUTES_OF_DAY}

-- the program that suggests a TOBT, and the one that decides the local alerts
pub record Programs : Type 0 where
  pub tobt : Option Verified
  pub alert : Option Verified

abbrev pub no_programs : Programs
no_programs = record { tobt = None; alert = None }

-- ---- the TOBT

pub data Suggestion : Type 0 where
  Nothing : Suggestion
  Usable : (tobt : ℕ) → Suggestion
  Unusable : Suggestion

-- a time from now to a day later, for a flight whose start-up is not approved
abbrev pub is_usable : Fields → ℕ → ℕ → Bool
is_usable r moment time = nat_le moment time
    && (nat_le time (moment + MINUTES_OF_DAY) && (nat_lt time (2 ^ 32) && not (is_set r Asat)))

-- what r0 of a TOBT program means, where there is one; 0 suggests nothing
abbrev pub suggestion : Fields → ℕ → Option ℕ → Suggestion
suggestion r moment None = Nothing
suggestion r moment (Some r0) =
    if r0 == 0 then Nothing else (if is_usable r moment r0 then Usable r0 else Unusable)

-- a record with CDM14 set or clear
abbrev pub rejecting : Bool → Fields → Fields
rejecting rejected r = set_number r Alerts (with_rejection rejected (number_of r Alerts))

-- a usable TOBT is that of the flight, as if milestone 9 gave it; one that is not leaves the
-- flight's TOBT
abbrev pub with_suggestion : Suggestion → Fields → Fields
with_suggestion Nothing r = r
with_suggestion (Usable tobt) r = rejecting false (marked (set_number r Tobt tobt) (number
    TobtUpdate))
with_suggestion Unusable r = rejecting true r

-- ---- the local alerts

-- the low 16 bits of r0
abbrev pub local_alerts : Option ℕ → Option ℕ
local_alerts r0 = option_map (λ r. r % 65536) r0

abbrev pub with_local_alerts : Option ℕ → Fields → Fields
with_local_alerts None r = r
with_local_alerts (Some locals) r = set_number r Alerts (with_locals locals (number_of r Alerts))

-- ---- both

pub record Effect : Type 0 where
  pub tobt : Suggestion
  pub locals : Option ℕ

abbrev pub no_effect : Effect
no_effect = record { tobt = Nothing; locals = None }

-- r0 of the program, if there is one, on a record with the first of these answers, and the answers
-- that are left; None where it comes to no end with them
abbrev pub r0_of : Option Verified → Fields → ℕ → ℕ → List ℕ → Option (Option ℕ × List ℕ)
r0_of None r moment m answers = Some (None, answers)
r0_of (Some p) r moment m answers =
    option_map (λ e. (Some e.0, e.1)) (result_of p.ops p.sigs (bytes_of r) moment m answers)

-- the alert program comes after what the TOBT program said, with the answers that this one left
abbrev pub effect_then : Programs → Fields → ℕ → ℕ → Option ℕ × List ℕ → Option (Effect × List ℕ)
effect_then ps r moment m first =
    option_map (λ second. (
      record {
        tobt = suggestion r moment first.0;
        locals = local_alerts second.0;
      },
      second.1,
    ))
    (r0_of ps.alert (with_suggestion (suggestion r moment first.0) r) moment m first.1)

-- what both say on a record, and the answers that are left
abbrev pub effect_with : Programs → Fields → ℕ → ℕ → List ℕ → Option (Effect × List ℕ)
effect_with ps r moment m answers =
    option_and_then (effect_then ps r moment m) (r0_of ps.tobt r moment m answers)

abbrev pub effect_or_none : Option (Effect × List ℕ) → Effect
effect_or_none None = no_effect
effect_or_none (Some s) = s.0

abbrev pub effect : Programs → Fields → ℕ → ℕ → List ℕ → Effect
effect ps r moment m answers = effect_or_none (effect_with ps r moment m answers)

-- a record with what was said
abbrev pub with_effect : Effect → Fields → Fields
with_effect s r = with_local_alerts s.locals (with_suggestion s.tobt r)
