-- Histories that the platform may have, and the board after one: each question is asked of the
-- whole history (this project's profile).
use Rattle.std.specs.Prelude.{ℕ, ◌^◌, ◌≡◌, ◌≤◌, ◌<◌, Bool, true, false, ◌&&◌, ◌||◌, List, []}
use Rattle.std.specs.Prelude.{◌∷◌, map, length, Option, Some, option_map}
use Rattle.acdm_record.specs.Fields.{Fields}
use Rattle.acdm_milestones.specs.declared.role.Role.{Role}
use Rattle.bpf_helpers.specs.Promise.{Promise}
use Rattle.bpf_helpers.specs.Same.{same_sigs}
use Rattle.bpf_regstate.specs.Lengths.{bytes_in}
use Rattle.bpf_regstate.specs.States.{Accepts}
use Rattle.bpf_verifier.specs.Verdict.{Verified}
use Rattle.acdm_slots.specs.Loaded.{Loaded}
use Rattle.acdm_step.specs.Programs.{Effect, effect_with}
use Rattle.acdm_step.specs.declared.command.Command.{Command}
use Rattle.acdm_step.specs.declared.command.Command.TheVariants.{Load}
use Rattle.acdm_step.specs.declared.entry.Verdict.{Verdict}
use Rattle.acdm_step.specs.Commands.{History, takes_programs, told_milestone}
use Rattle.acdm_step.specs.Commands.{is_accepted, is_alerts}
use Rattle.acdm_step.specs.InSlots.{programs_of, slots_of}
use Rattle.acdm_step.specs.Summaries.{record_of, flights, run_record_of}
use Rattle.acdm_step.specs.Verdicts.{verdict_of}

-- ---- histories that the platform may have

-- a program that is loaded was checked against the signatures of the board, and is accepted under
-- them beside records of the length that the load names
abbrev pub IsChecked : List (ℕ × Promise) → Command → Type 0
IsChecked sigs (Load l) = (l.program.sigs ≡ sigs)
    × Accepts (bytes_in l.program.record_length) l.program.ops sigs
IsChecked sigs _ = Unit {0}

-- whether a program was checked against these signatures
abbrev pub is_checked : List (ℕ × Promise) → Verified → Bool
is_checked sigs p = same_sigs p.sigs sigs

-- the answers that are left of those that an accepted command was given, once its programs have
-- ended
abbrev pub left_after : Option (Effect × List ℕ) → Option (List ℕ)
left_after s = option_map (λ x. x.1) s

abbrev pub left_by : History → Command → ℕ → List ℕ → Option (List ℕ)
left_by J c moment answers = left_after
    (effect_with (programs_of J c) (run_record_of J c) moment (told_milestone c) answers)

-- the verdict is that of the tests, and the answers are those that the programs of an accepted
-- command use
pub record IsAnswered (sigs : List (ℕ × Promise)) (J : History) (role : Role) (moment : ℕ)
    (c : Command) (verdict : Verdict) (answers : List ℕ) : Type 0 where
  pub verdict_is : verdict ≡ verdict_of sigs J role c
  pub used : is_accepted verdict ≡ true → left_by J c moment answers ≡ Some []
  pub unused : is_accepted verdict ≡ false → answers ≡ []

-- the ranges of what an entry says beside its command: sessions from 1 to 64, moments from 1, in
-- minutes since 1970-01-01T00:00Z
pub record IsInRange (session minute : ℕ) : Type 0 where
  pub session_given : 1 ≤ session
  pub few_sessions : session ≤ 64
  pub minute_given : 1 ≤ minute
  pub few_minutes : minute < 2 ^ 32

abbrev pub IsLegal : List (ℕ × Promise) → History → Type 0
IsLegal sigs [] = Unit {0}
IsLegal sigs (e ∷ J) =
    IsLegal sigs J × (e.number ≡ length J) × IsInRange e.session e.moment × IsChecked sigs e.command
    × IsAnswered sigs J e.role e.moment e.command e.verdict e.answers

-- the board after a history: the records in order of creation, and the programs in the slots
pub record Board : Type 0 where
  pub records : List Fields
  pub slots : Loaded

abbrev pub replay : List (ℕ × Promise) → History → Board
replay sigs J = record { records = map (record_of J) (flights J); slots = slots_of sigs J }

-- the history with one more command, with what came of it and the answers of helpers
abbrev pub after : History → ℕ → Role → ℕ → Command → Verdict → List ℕ → History
after J session role moment command verdict answers =
    record {
      number = length J;
      session = session;
      role = role;
      moment = moment;
      command = command;
      verdict = verdict;
      answers = answers;
    } ∷ J

-- whether a command needs memory: for a list of alerts, for a copy of a program, or for copies of
-- all programs that are judged again
abbrev pub needs_memory : List (ℕ × Promise) → History → Role → Command → Bool
needs_memory sigs J role c =
    is_alerts c || (takes_programs c && is_accepted (verdict_of sigs J role c))
