-- Bytes are read in one way, beside a record of one length.
use Rattle.std.proofs.Common.{◌≡◌, ℕ, ◌<◌, List, None, Some, Result, Ok, Err, sym, ap, subst, ◌∙◌}
use Rattle.std.proofs.Common.{arith, inl, inr}
use Rattle.bpf_decode.specs.declared.op.Op.{Op}
use Rattle.bpf_decode.proofs.OnceLemmas.{one_program, no_fault, one_first_fault}
use Rattle.bpf_helpers.specs.Promise.{Promise}
use Rattle.bpf_regstate.specs.declared.length.Length.{Length}
use Rattle.bpf_regstate.specs.Lengths.{bytes_in}
use Rattle.bpf_regstate.specs.States.{Accepts, IsFirstFault, fault_at}
use Rattle.bpf_verifier.specs.Verdict.{Verified}
use Rattle.bpf_verifier.specs.declared.reading.ProgramError.{ProgramError}
use Rattle.bpf_verifier.specs.declared.reading.ProgramError.TheVariants.{Memory, Refused}
use Rattle.bpf_verifier.specs.Reading.{Reading, IsReading, GivesReading, AnswersReading}

-- an accepted program has no fault
not_both : (n : ℕ) (ops : List Op) (sigs : List (ℕ × Promise)) (slot code : ℕ) → Accepts n ops sigs
    → IsFirstFault n ops sigs slot code → ⊥
not_both n ops sigs slot code a f =
    let none : fault_at n ops sigs slot ≡ None = a slot f.inside in
    let some : fault_at n ops sigs slot ≡ Some code = f.fault in
    cc

-- no first fault comes before another
not_before : (n : ℕ) (ops : List Op) (sigs : List (ℕ × Promise)) (s t c d : ℕ) → s < t
    → IsFirstFault n ops sigs s c → IsFirstFault n ops sigs t d → ⊥
not_before n ops sigs s t c d h f g =
    let none : fault_at n ops sigs s ≡ None = g.before s h in
    let some : fault_at n ops sigs s ≡ Some c = f.fault in
    cc

pub one_fault : (n : ℕ) (ops : List Op) (sigs : List (ℕ × Promise)) (s t c d : ℕ)
    → IsFirstFault n ops sigs s c → IsFirstFault n ops sigs t d → (c ≡ d) × (s ≡ t)
one_fault n ops sigs s t c d f g =
    let low : s < t → ⊥ = λ h. not_before n ops sigs s t c d h f g in
    let high : t < s → ⊥ = λ h. not_before n ops sigs t s d c h g f in
    let same : s ≡ t = omega arith in
    let here : fault_at n ops sigs s ≡ Some c = f.fault in
    let there : fault_at n ops sigs t ≡ Some d = g.fault in
    let moved : fault_at n ops sigs s ≡ fault_at n ops sigs t =
    ap (fault_at n ops sigs) same in
    let code : c ≡ d = cc in
    (code, same)

one_verified : (v w : Verified) → v.ops ≡ w.ops → v.sigs ≡ w.sigs
    → v.record_length ≡ w.record_length → v ≡ w
one_verified v w e f g = λ i. record { record_length = g i; ops = e i; sigs = f i }

pub same_fault : (f g : ℕ × ℕ) → (f.0 ≡ g.0) × (f.1 ≡ g.1) → f ≡ g
same_fault f g e =
    let with_code : ℕ → ℕ × ℕ = λ code. (code, f.1) in
    let with_slot : ℕ → ℕ × ℕ = λ slot. (g.0, slot) in
    ap with_code e.0 ∙ ap with_slot e.1

pub only_reading : (sigs : List (ℕ × Promise)) (record_length : Length) (bytes : List ℕ)
    (a b : Reading) → IsReading sigs record_length bytes a → IsReading sigs record_length bytes b
    → a ≡ b
only_reading sigs record_length bytes (Ok v) (Ok w) p q =
    ap Ok (one_verified v w (one_program bytes v.ops w.ops p.encoded q.encoded) (p.checked
    ∙ sym q.checked) (p.long ∙ sym q.long))
only_reading sigs record_length bytes (Ok v) (Err g) p (inl q) = absurd (no_fault bytes v.ops g.0 g.1 p.encoded q)
only_reading sigs record_length bytes (Ok v) (Err g) p (inr q) =
    let same : v.ops ≡ q.ops = one_program bytes v.ops q.ops p.encoded q.encoded in
    absurd (not_both (bytes_in record_length) q.ops sigs g.1 g.0 (subst (λ ops. Accepts (bytes_in record_length) ops sigs) same p.accepted)
    q.fault)
only_reading sigs record_length bytes (Err f) (Ok w) (inl p) q = absurd (no_fault bytes w.ops f.0 f.1 q.encoded p)
only_reading sigs record_length bytes (Err f) (Ok w) (inr p) q =
    let same : w.ops ≡ p.ops = one_program bytes w.ops p.ops q.encoded p.encoded in
    absurd (not_both (bytes_in record_length) p.ops sigs f.1 f.0 (subst (λ ops. Accepts (bytes_in record_length) ops sigs) same q.accepted)
    p.fault)
only_reading sigs record_length bytes (Err f) (Err g) (inl p) (inl q) =
    ap Err (same_fault f g (one_first_fault bytes f.0 g.0 f.1 g.1 p q))
only_reading sigs record_length bytes (Err f) (Err g) (inl p) (inr q) =
    absurd (no_fault bytes q.ops f.0 f.1 q.encoded p)
only_reading sigs record_length bytes (Err f) (Err g) (inr p) (inl q) =
    absurd (no_fault bytes p.ops g.0 g.1 p.encoded q)
only_reading sigs record_length bytes (Err f) (Err g) (inr p) (inr q) =
    let same : p.ops ≡ q.ops = one_program bytes p.ops q.ops p.encoded q.encoded in
    ap Err (same_fault f g (one_fault (bytes_in record_length) q.ops sigs f.1 g.1 f.0 g.0
    (subst (λ ops. IsFirstFault (bytes_in record_length) ops sigs f.1 f.0) same p.fault) q.fault))

-- so what is answered is the only answer
pub answers_reading : (sigs : List (ℕ × Promise)) (record_length : Length) (bytes : List ℕ)
    (reading : Reading) (r : Result Verified ProgramError) → GivesReading sigs record_length bytes r
    → IsReading sigs record_length bytes reading → AnswersReading reading r
answers_reading sigs record_length bytes reading (Ok v) h p = only_reading sigs record_length bytes reading (Ok v) p h
answers_reading sigs record_length bytes reading (Err (Refused code slot)) h p =
    only_reading sigs record_length bytes reading (Err (code, slot)) p h
answers_reading sigs record_length bytes reading (Err Memory) h p = tt
