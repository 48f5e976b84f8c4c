-- Loaded programs: a map from milestone and kind to the program that runs there (this project's
-- profile).
use Rattle.std.specs.Prelude.{◌≡◌, ℕ, ◌+◌, ◌-◌, ◌*◌, ◌==◌, List, [], ◌∷◌, length, slice_index_or}
use Rattle.std.specs.Prelude.{if◌then◌else◌, not, Option, Some, None}
use Rattle.acdm_milestones.specs.declared.milestone.Milestone.{Milestone}
use Rattle.acdm_milestones.specs.declared.milestone.Milestone.TheVariants.{FlightPlanActivated}
use Rattle.acdm_milestones.specs.declared.milestone.Milestone.TheVariants.{TwoHoursBeforeEobt}
use Rattle.acdm_milestones.specs.declared.milestone.Milestone.TheVariants.{TakeOffFromOutstation}
use Rattle.acdm_milestones.specs.declared.milestone.Milestone.TheVariants.{LocalRadarUpdate}
use Rattle.acdm_milestones.specs.declared.milestone.Milestone.TheVariants.{FinalApproach, Landed}
use Rattle.acdm_milestones.specs.declared.milestone.Milestone.TheVariants.{InBlock}
use Rattle.acdm_milestones.specs.declared.milestone.Milestone.TheVariants.{GroundHandlingStarts}
use Rattle.acdm_milestones.specs.declared.milestone.Milestone.TheVariants.{TobtUpdate, TsatIssue}
use Rattle.acdm_milestones.specs.declared.milestone.Milestone.TheVariants.{BoardingStarts}
use Rattle.acdm_milestones.specs.declared.milestone.Milestone.TheVariants.{AircraftReady}
use Rattle.acdm_milestones.specs.declared.milestone.Milestone.TheVariants.{StartUpRequest}
use Rattle.acdm_milestones.specs.declared.milestone.Milestone.TheVariants.{StartUpApproved}
use Rattle.acdm_milestones.specs.declared.milestone.Milestone.TheVariants.{OffBlock, TakeOff}
use Rattle.acdm_milestones.specs.Tables.{number}
use Rattle.acdm_slots.specs.declared.kind.Kind.{Kind}
use Rattle.acdm_slots.specs.declared.kind.Kind.TheVariants.{Tobt, Alert}
use Rattle.acdm_slots.specs.declared.error.SlotError.{SlotError}
use Rattle.acdm_slots.specs.declared.error.SlotError.TheVariants.{OtherLength, OtherSignatures}
use Rattle.bpf_helpers.specs.Promise.{Promise}
use Rattle.bpf_helpers.specs.Same.{same_sigs}
use Rattle.bpf_regstate.specs.declared.length.Length.{Length}
use Rattle.bpf_regstate.specs.Lengths.{bytes_in, same_length}
use Rattle.bpf_regstate.specs.States.{Accepts}
use Rattle.bpf_verifier.specs.Verdict.{Verified}

-- two places for each milestone, one for each kind
abbrev pub side : Kind → ℕ
side Tobt = 0
side Alert = 1

abbrev pub place : Milestone → Kind → ℕ
place m kind = 2 * (number m - 1) + side kind

abbrev pub milestones : List Milestone
milestones =
    FlightPlanActivated ∷ TwoHoursBeforeEobt ∷ TakeOffFromOutstation ∷ LocalRadarUpdate
    ∷ FinalApproach ∷ Landed
    ∷ InBlock ∷ GroundHandlingStarts ∷ TobtUpdate ∷ TsatIssue ∷ BoardingStarts ∷ AircraftReady
    ∷ StartUpRequest
    ∷ StartUpApproved ∷ OffBlock ∷ TakeOff ∷ []

-- the values of a function at both kinds of these milestones
abbrev pub values : (Milestone → Kind → Option Verified) → List Milestone → List (Option Verified)
values f [] = []
values f (m ∷ ms) = f m Tobt ∷ f m Alert ∷ values f ms

-- all its values, each at its place
unfoldable pub table : (Milestone → Kind → Option Verified) → List (Option Verified)
table f = values f milestones

-- the signatures of a board, the length of its records, and the table of the function that gives the
-- program in each slot, if there is one
pub record Loaded : Type 0 where
  pub sigs : List (ℕ × Promise)
  pub record_length : Length
  pub programs : List (Option Verified)

abbrev pub loaded : List (ℕ × Promise) → Length → (Milestone → Kind → Option Verified) → Loaded
loaded sigs record_length f = record {
  sigs = sigs;
  record_length = record_length;
  programs = table f;
}

-- the program of a kind at a milestone
abbrev pub program_in : Loaded → Milestone → Kind → Option Verified
program_in l m kind = slice_index_or l.programs (place m kind) None

-- the same programs but for this one, or none, of a kind at a milestone
abbrev pub with_program : Loaded → Milestone → Kind → Option Verified → Loaded
with_program l m kind p = loaded l.sigs l.record_length (λ n other. if place m kind
    == place n other then p else program_in l n other)

-- no program is loaded
abbrev pub nothing_loaded : List (ℕ × Promise) → Length → Loaded
nothing_loaded sigs record_length = loaded sigs record_length (λ m kind. None)

-- each program was checked under the board's signatures and beside records of their length, and is
-- accepted so
abbrev pub AreFit : Loaded → Type 0
AreFit l = (m : Milestone) (kind : Kind) (v : Verified) → program_in l m kind ≡ Some v
    → (v.sigs ≡ l.sigs) × (v.record_length ≡ l.record_length)
    × Accepts (bytes_in l.record_length) v.ops l.sigs

-- why a program is not loaded: it was checked beside records of another length, or else under other
-- signatures
abbrev pub load_error : Loaded → Verified → Option SlotError
load_error l p = if not (same_length p.record_length l.record_length) then Some OtherLength else
    (if not (same_sigs p.sigs l.sigs) then Some OtherSignatures else None)

-- what is true of the programs of a board
pub record IsBoard (l : Loaded) : Type 0 where
  pub places : length l.programs ≡ 32
  pub fit : AreFit l
