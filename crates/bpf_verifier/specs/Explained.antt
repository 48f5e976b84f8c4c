-- What `explain` tells of a program (this project's profile).
use Rattle.std.specs.Prelude.{◌≡◌, ℕ, ◌+◌, ◌<◌, List, Option, Some, None, length, slice_get}
use Rattle.std.specs.Prelude.{MatchOption}
use Rattle.bpf_decode.specs.declared.op.Op.{Op}
use Rattle.bpf_helpers.specs.Promise.{Promise}
use Rattle.bpf_regstate.specs.States.{Accepts, IsFirstFault, state_at}
use Rattle.bpf_verifier.specs.declared.explanation.Explanation.{Explanation}
use Rattle.bpf_verifier.specs.declared.fault.SlotFault.{SlotFault}
use Rattle.bpf_verifier.specs.Verdict.{code_of}

-- of how many of so many slots it is told: of all, or of those up to the first with a fault
abbrev pub slots_told : Option (SlotFault × ℕ) → ℕ → ℕ
slots_told None slots = slots
slots_told (Some found) slots = found.1 + 1

-- What is told of a slot is the state there, by which the definitions judge it; and the verdict is
-- theirs.
pub record Explains (record_length : ℕ) (ops : List Op) (sigs : List (ℕ × Promise)) (told : Explanation) : Type 0 where
  pub states : (slot : ℕ) → slot < length told.states.items
      → slice_get told.states.items slot ≡ Some (state_at record_length ops sigs slot)
  pub slots : length told.states.items ≡ slots_told told.fault (length ops)
  pub verdict : MatchOption told.fault (Accepts record_length ops sigs)
      (λ found. IsFirstFault record_length ops sigs found.1 (code_of found.0))
