-- What the parts of the decoder answer.
use Rattle.std.specs.Prelude.{◌≡◌, ℕ, ◌+◌, ◌*◌, List, [], ◌∷◌, ◌++◌, length, Result, Ok, Err}
use Rattle.bpf_decode.specs.declared.op.Op.{Op}
use Rattle.bpf_decode.specs.declared.op.Op.TheVariants.{Wide, Tail}
use Rattle.bpf_decode.specs.declared.fault.DecodeError.{DecodeError}
use Rattle.bpf_decode.specs.declared.fault.DecodeError.TheVariants.{Refused, Memory}
use Rattle.bpf_decode.specs.Encoding.{IsInstruction, StartFault, FirstFault, encoding_of}
use Rattle.bpf_decode.specs.Faults.{code_of}

-- an instruction with its tail
abbrev pub parts_of : Op → List Op
parts_of (Wide dst value) = Wide dst value ∷ Tail ∷ []
parts_of op = op ∷ []

-- the bytes begin with this instruction
abbrev pub Begins : List ℕ → Op → Type 0
Begins bytes op = IsInstruction op × ((after : List ℕ) × (bytes ≡ encoding_of op ++ after))

-- no instruction begins at this slot
abbrev pub Stops : List ℕ → ℕ → DecodeError → Type 0
Stops bytes slot (Refused fault at) =
    (more : ℕ) × (at ≡ slot + more) × StartFault bytes (code_of fault) more
Stops bytes slot Memory = ⊥

-- the error is the first fault of the bytes, or want of memory
abbrev pub Refuses : List ℕ → DecodeError → Type 0
Refuses bytes (Refused fault slot) = FirstFault bytes (code_of fault) slot
Refuses bytes Memory = Unit {0}

abbrev pub IsStop : List ℕ → ℕ → DecodeError → Type 0
IsStop bytes slot (Refused fault at) = Stops bytes slot (Refused fault at)
IsStop bytes slot Memory = Unit {0}

-- the instruction at the front of the bytes is added, and it has so many bytes
abbrev pub Grows : List Op → List Op → List ℕ → ℕ → Type 0
Grows old new bytes len = (op : Op) × Begins bytes op × (new ≡ old ++ parts_of op)
    × (len ≡ 8 * length (parts_of op))

-- the answer is this program, or want of memory
abbrev pub AnswersProgram : List Op → Result (List Op) DecodeError → Type 0
AnswersProgram ops (Ok found) = found ≡ ops
AnswersProgram ops (Err (Refused fault slot)) = ⊥
AnswersProgram ops (Err Memory) = Unit {0}

-- the answer is this fault, or want of memory
abbrev pub AnswersFault : ℕ → ℕ → Result (List Op) DecodeError → Type 0
AnswersFault code slot (Ok found) = ⊥
AnswersFault code slot (Err (Refused fault at)) = (code_of fault ≡ code) × (at ≡ slot)
AnswersFault code slot (Err Memory) = Unit {0}
