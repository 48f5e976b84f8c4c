-- Bytes that are refused encode no accepted program.
use Rattle.std.proofs.Common.{◌≡◌, ℕ, List, Result, Ok, Err, refl, subst, ◌∙◌, ap}
use Rattle.bpf_decode.specs.declared.op.Op.{Op}
use Rattle.bpf_decode.specs.Encoding.{Encodes}
use Rattle.bpf_helpers.specs.Promise.{Promise}
use Rattle.bpf_regstate.specs.declared.length.Length.{Length}
use Rattle.bpf_regstate.specs.Lengths.{bytes_in}
use Rattle.bpf_regstate.specs.States.{Accepts}
use Rattle.bpf_verifier.specs.declared.reading.ProgramError.{ProgramError}
use Rattle.bpf_verifier.specs.declared.reading.ProgramError.TheVariants.{Refused}
use Rattle.bpf_verifier.specs.Reading.{Reading, IsReading, AnswersReading}
use Rattle.bpf_verifier.specs.Verdict.{Verified}

pub none_accepted : (sigs : List (ℕ × Promise)) (record_length : Length) (bytes : List ℕ)
    (r : Result Verified ProgramError) (e : ProgramError) (code slot : ℕ) → r ≡ Err e
    → e ≡ Refused code slot
    → ((reading : Reading) → IsReading sigs record_length bytes reading → AnswersReading reading r)
    → (ops : List Op) → Encodes bytes ops → Accepts (bytes_in record_length) ops sigs → ⊥
none_accepted sigs record_length bytes r e code slot is told only ops encoded accepted =
    let v : Verified = record { record_length = record_length; ops = ops; sigs = sigs } in
    let answer : AnswersReading (Ok v) (Err (Refused code slot)) =
    subst (λ (x : Result Verified ProgramError). AnswersReading (Ok v) x) (is ∙ ap Err told)
    (only (Ok v) (record {
      encoded = encoded;
      accepted = accepted;
      checked = refl;
      long = refl;
    })) in
    absurd cc
