-- What is told of the bytes of a program (this project's profile).
use Rattle.std.specs.Prelude.{ℕ, ◌≡◌, List, Option, Some, None, Bool, true, false}
use Rattle.bpf_decode.specs.Encoding.{Encodes, FirstFault}
use Rattle.bpf_decode.specs.Faults.{code_of}
use Rattle.bpf_helpers.specs.Promise.{Promise}
use Rattle.bpf_regstate.specs.declared.length.Length.{Length}
use Rattle.bpf_regstate.specs.Lengths.{bytes_in}
use Rattle.bpf_verifier.specs.Explained.{Explains}
use Rattle.bpf_verifier.specs.declared.fault.SlotFault.{SlotFault}
use Rattle.bpf_explain.specs.declared.told.Told.{Told}
use Rattle.bpf_explain.specs.declared.told.Told.TheVariants.{Encoded, Unreadable}

-- the program that the bytes encode, with the state at each slot up to its first fault beside a
-- record of this length, or the first fault of the bytes
abbrev pub Tells : List (ℕ × Promise) → Length → List ℕ → Told → Type 0
Tells sigs long bytes (Encoded program length explanation) =
    Encodes bytes program × (length ≡ long) × Explains (bytes_in long) program sigs explanation
Tells sigs long bytes (Unreadable fault slot) = FirstFault bytes (code_of fault) slot

-- whether it is told that no slot has a fault
abbrev pub is_clear : Option (SlotFault × ℕ) → Bool
is_clear None = true
is_clear (Some found) = false

abbrev pub is_accepted : Told → Bool
is_accepted (Encoded program length explanation) = is_clear explanation.fault
is_accepted (Unreadable fault slot) = false
