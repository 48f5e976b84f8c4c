-- Runs of programs whose answers an oracle gives, and what comes of a command with them.
use Rattle.std.specs.Prelude.{ℕ, ◌≡◌, ◌+◌, ◌<◌, ◌≤◌, List, [], length, true, false, Option, Some}
use Rattle.acdm_record.specs.Fields.{Fields, bytes_of}
use Rattle.acdm_milestones.specs.declared.role.Role.{Role}
use Rattle.acdm_milestones.specs.declared.refusal.Refusal.TheVariants.{Unanswered}
use Rattle.bpf_helpers.specs.Promise.{Promise}
use Rattle.bpf_helpers.specs.Oracles.{OracleView, Gained, SameRule}
use Rattle.bpf_verifier.specs.Verdict.{Verified}
use Rattle.bpf_run.specs.Ends.{AsksOver}
use Rattle.acdm_step.specs.declared.command.Command.{Command}
use Rattle.acdm_step.specs.declared.outcome.Outcome.{Outcome}
use Rattle.acdm_step.specs.declared.outcome.Outcome.TheVariants as outcomes
use Rattle.acdm_step.specs.Programs.{Programs, Effect, suggestion, with_suggestion, with_effect}
use Rattle.acdm_step.specs.Ran.{EndsWith, HasEffect, Ran}
use Rattle.acdm_step.specs.Commands.{History, flight_of, told_milestone, is_accepted}
use Rattle.acdm_step.specs.InSlots.{programs_of, size_of}
use Rattle.acdm_step.specs.Summaries.{run_record_of}
use Rattle.acdm_step.specs.Verdicts.{verdict_of, outcome_of}
use Rattle.acdm_step.specs.History.{Board}
use Rattle.acdm_step.specs.Board.{record_on, programs_on, assigned_to, touched, board_verdict}
use Rattle.acdm_step.specs.Board.{board_outcome, board_after}

-- the program that may stand in a slot ends with r0, with the answers that were gained, no more
-- than it has instructions
abbrev pub EndsAt : Option Verified → Fields → ℕ → ℕ → OracleView → OracleView → Option ℕ → Type 0
EndsAt p r moment m before after r0 =
    (used : List ℕ) × Gained before after used × EndsWith p r moment m used r0
    × (length used ≤ size_of p)
    × (after.refusals ≡ before.refusals)

-- a program stands in a slot, and the answers that were gained, fewer than it has instructions,
-- lead it to a question that the oracle declines
abbrev pub AsksAt : Option Verified → Fields → ℕ → ℕ → OracleView → OracleView → Type 0
AsksAt p r moment m before after =
    (v : Verified) × (p ≡ Some v) × AsksOver v.ops v.sigs (bytes_of r) moment m before after
    × (length after.log < length before.log + size_of p) × (after.refusals ≡ before.refusals + 1)

-- one of the two programs of a report does so
pub data AsksIn (ps : Programs) (r : Fields) (moment m : ℕ) (before after : OracleView) : Type 0
  where
    first : AsksAt ps.tobt r moment m before after → AsksIn ps r moment m before after
    second : (between : OracleView) (r0 : Option ℕ) → SameRule before between
        → EndsAt ps.tobt r moment m before between r0
        → AsksAt ps.alert (with_suggestion (suggestion r moment r0) r) moment m between after
        → AsksIn ps r moment m before after

-- both end, and the record is the one with what they said
abbrev pub EndsIn : Programs → Fields → ℕ → ℕ → OracleView → OracleView → Fields → Type 0
EndsIn ps r moment m before after new =
    (used : List ℕ) × (s : Effect) × Gained before after used × HasEffect ps r moment m used s
    × (new ≡ with_effect s r)
    × (after.refusals ≡ before.refusals)

-- an accepted command has changed a record, with all of the answers that were gained
abbrev pub ChangesTo : Programs → Fields → ℕ → Command → OracleView → OracleView → Fields → Type 0
ChangesTo ps r moment c before after new =
    (used : List ℕ) × (s : Effect) × Gained before after used
    × HasEffect ps (assigned_to r c) moment (told_milestone c) used s
    × (new ≡ touched moment (with_effect s (assigned_to r c))) × (after.refusals ≡ before.refusals)

-- What comes of a command on a board: the outcome of the tests, with the answers that the programs
-- of an accepted command use; or the tests accept it, but the oracle leaves a question of a program
-- without an answer.
pub data Comes (b : Board) (role : Role) (moment : ℕ) (c : Command) (before after : OracleView)
    (outcome : Outcome) (new : Board) : Type 0 where
  answered : (used : List ℕ) → Gained before after used → after.refusals ≡ before.refusals
      → outcome ≡ board_outcome b role c
      → (is_accepted (board_verdict b role c) ≡ true
      → Ran (programs_on b.slots c) (assigned_to (record_on b (flight_of c)) c) moment
      (told_milestone c) used)
      → (is_accepted (board_verdict b role c) ≡ false → used ≡ [])
      → new ≡ board_after b role moment c used
      → Comes b role moment c before after outcome new
  unanswered : outcome ≡ outcomes.Refused Unanswered → is_accepted (board_verdict b role c) ≡ true
      → AsksIn (programs_on b.slots c) (assigned_to (record_on b (flight_of c)) c) moment
      (told_milestone c) before after → new ≡ b
      → Comes b role moment c before after outcome new

-- the same after a history
pub data ComesOf (sigs : List (ℕ × Promise)) (J : History) (role : Role) (moment : ℕ) (c : Command)
    (before after : OracleView) (outcome : Outcome) : Type 0 where
  answered_so : (used : List ℕ) → Gained before after used → after.refusals ≡ before.refusals
      → outcome ≡ outcome_of sigs J role c
      → (is_accepted (verdict_of sigs J role c) ≡ true
      → Ran (programs_of J c) (run_record_of J c) moment (told_milestone c) used)
      → (is_accepted (verdict_of sigs J role c) ≡ false → used ≡ [])
      → ComesOf sigs J role moment c before after outcome
  unanswered_so : outcome ≡ outcomes.Refused Unanswered
      → is_accepted (verdict_of sigs J role c) ≡ true
      → AsksIn (programs_of J c) (run_record_of J c) moment (told_milestone c) before after
      → ComesOf sigs J role moment c before after outcome
