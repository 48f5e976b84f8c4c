-- The runs of what `verify` answers (this project's profile).
use Rattle.std.specs.Prelude.{◌≡◌, ℕ, ◌<◌, ◌≤◌, ◌^◌, ◌++◌, List, IsTrue, length}
use Rattle.bpf_decode.specs.Encoding.{IsProgram}
use Rattle.bpf_helpers.specs.Promise.{are_well_formed}
use Rattle.bpf_semantics.specs.Machine.{Machine, start}
use Rattle.bpf_semantics.specs.Runs.{Reaches, RunEnds}
use Rattle.bpf_regstate.specs.declared.length.Length.{Length}
use Rattle.bpf_regstate.specs.Holds.{AreBytes}
use Rattle.bpf_regstate.specs.Lengths.{bytes_in}
use Rattle.bpf_regstate.specs.States.{Accepts, instruction_count}
use Rattle.bpf_verifier.specs.Verdict.{Verified}

-- a program of which no slot has a fault beside a record of its length, and signatures that promise
-- something
pub record MayRun (v : Verified) : Type 0 where
  pub program : IsProgram v.ops
  pub signatures : IsTrue (are_well_formed v.sigs)
  pub accepted : Accepts (bytes_in v.record_length) v.ops v.sigs

-- a record of this length, a moment of 32 bits, a milestone from 1 to 16
pub record IsInput (record_length : Length) (record_bytes : List ℕ) (moment milestone : ℕ) : Type 0 where
  pub long : length record_bytes ≡ bytes_in record_length
  pub bytes : AreBytes record_bytes
  pub timely : moment < 2 ^ 32
  pub first_milestone : 1 ≤ milestone
  pub last_milestone : milestone ≤ 16

module _ (v : Verified) (record_bytes : List ℕ) (moment milestone : ℕ) (answers : List ℕ) where
  -- such a program on such an input reaches this machine in so many steps, with exactly these
  -- promised answers
  pub record Leads (n : ℕ) (m : Machine) : Type 0 where
    pub may_run : MayRun v
    pub input : IsInput v.record_length record_bytes moment milestone
    pub reached : Reaches v.ops v.sigs record_bytes (start (length record_bytes) moment milestone)
        answers n m

  -- with some more promised answers it ends, at the latest in the step of the number of its
  -- instructions
  pub record GoesToItsEnd : Type 0 where
    pub more : List ℕ
    pub r0 : ℕ
    pub steps : ℕ
    pub few : steps ≤ instruction_count v.ops
    pub ends : RunEnds v.ops v.sigs record_bytes moment milestone (answers ++ more) r0 steps
