-- The headline, part by part, over the definitions of the crates below: a program that the verifier
-- accepts ends on every flight record, whatever answers the helpers give within their promise, without
-- a trap and in at most as many steps as it has instructions; and for every interleaving of partners'
-- commands, served by any threads, board, alerts and replies are those of the written milestone step
-- with the programs then loaded, a refused command changing nothing.
use Rattle.std.specs.Prelude.{ℕ, ◌≡◌, ◌<◌, false, true, List, [], ◌∷◌, map, Some}
use Rattle.bpf_helpers.specs.Promise.{Promise}
use Rattle.bpf_semantics.specs.Machine.{Machine, action}
use Rattle.bpf_semantics.specs.Runs.{IsTrapped}
use Rattle.bpf_regstate.specs.States.{instruction_count}
use Rattle.bpf_verifier.specs.Verdict.{Verified}
use Rattle.bpf_verifier.specs.Runs.{GoesToItsEnd, IsInput, Leads}
use Rattle.acdm_milestones.specs.declared.milestone.Milestone.{Milestone}
use Rattle.acdm_slots.specs.declared.kind.Kind.{Kind}
use Rattle.acdm_step.specs.declared.entry.Entry.{Entry}
use Rattle.acdm_step.specs.Commands.{History, is_accepted}
use Rattle.acdm_step.specs.History.{IsLegal, left_by, replay}
use Rattle.acdm_step.specs.InSlots.{program_in, slots_of}
use Rattle.acdm_step.specs.Summaries.{flights, record_of}
use Rattle.acdm_step.specs.Verdicts.{verdict_of}
use Rattle.acdm_slots.specs.Loaded as loaded
use Rattle.acdm_board.specs.Desk.{DeskView}
use Rattle.acdm_sessions.specs.Sessions.{ServesSessions, SessionStart, SessionTold}

-- ---- programs

-- What the verifier accepts, on any record of its length, at any moment and for any milestone: it
-- ends, in at most as many steps as it has instructions; whatever promised answers its calls were
-- given on the way, it is not trapped where it then is, has taken fewer steps than that, and still
-- goes on to its end.
pub record NeverGoesWrong (v : Verified) : Type 0 where
  pub ends : (record_bytes : List ℕ) (moment milestone : ℕ)
      → IsInput v.record_length record_bytes moment milestone
      → GoesToItsEnd v record_bytes moment milestone []
  pub goes_on : (record_bytes : List ℕ) (moment milestone : ℕ) (answers : List ℕ) (n : ℕ)
      (m : Machine) → Leads v record_bytes moment milestone answers n m
      → GoesToItsEnd v record_bytes moment milestone answers
  pub free : (record_bytes : List ℕ) (moment milestone : ℕ) (answers : List ℕ) (n : ℕ)
      (m : Machine) → Leads v record_bytes moment milestone answers n m
      → IsTrapped v.sigs (action v.ops v.sigs record_bytes m) → ⊥
  pub few : (record_bytes : List ℕ) (moment milestone : ℕ) (answers : List ℕ) (n : ℕ)
      (m : Machine) → Leads v record_bytes moment milestone answers n m
      → n < instruction_count v.ops

-- ---- the board

-- What an entry of a legal journal says is what the written step makes of the entries before it, with
-- the programs then loaded, each of which is accepted: the verdict that of the tests, the answers those
-- that its programs use, and none where it was refused. So its board is the records of all flights,
-- alerts among them, and the programs in the slots, each asked of the whole history.
pub record IsOfTheStep (sigs : List (ℕ × Promise)) (J : History) (e : Entry) : Type 0 where
  pub verdict : e.verdict ≡ verdict_of sigs J e.role e.command
  pub used : is_accepted e.verdict ≡ true → left_by J e.command e.moment e.answers ≡ Some []
  pub unused : is_accepted e.verdict ≡ false → e.answers ≡ []
  pub records : (replay sigs (e ∷ J)).records ≡ map (record_of (e ∷ J)) (flights (e ∷ J))
  pub slots : (m : Milestone) (kind : Kind)
      → loaded.program_in (slots_of sigs (e ∷ J)) m kind ≡ program_in (e ∷ J) m kind

-- A refused entry leaves the board, each record and its alerts as they were.
pub record ChangesNothing (sigs : List (ℕ × Promise)) (J : History) (e : Entry) : Type 0 where
  pub board : replay sigs (e ∷ J) ≡ replay sigs J
  pub records : (flight : ℕ) → record_of (e ∷ J) flight ≡ record_of J flight

-- ---- partners

-- Whatever came of the threads, the closed journal is legal, and the sessions were served: it goes on from
-- the opening one by the entries of their calls, and each was answered, line by line, for its own.
pub record IsInterleaved (opening closed : DeskView) (starts : List SessionStart)
    (told : List SessionTold) : Type 0 where
  pub legal : IsLegal closed.sigs closed.history
  pub serves : ServesSessions opening closed starts told
