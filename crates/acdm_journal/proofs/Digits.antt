-- Bytes as hexadecimal digits, byte by byte and instruction by instruction.
use Rattle.std.proofs.Common.{◌≡◌, ℕ, List, [], ◌∷◌, ◌++◌, length, append_assoc, append-nil, refl, sym, ap, subst, ◌∙◌}
use Rattle.std.specs.List.{AllByRecursion}
use Rattle.hex.specs.Hex.{encode_lower, encode_with}
use Rattle.bpf_decode.specs.declared.op.Op.{Op}
use Rattle.bpf_decode.specs.Encoding.{encoding, encoding_of}
use Rattle.acdm_journal.specs.Ranges.{IsByte}
use Rattle.acdm_journal.proofs.PlainWords.{each-append}

-- the digits of one byte more
pub digits-more : (old before added all rest : List ℕ) (b : ℕ) (more : List ℕ) → rest ≡ b ∷ more
    → added ≡ before ++ encode_lower (b ∷ []) → before ++ encode_lower rest ≡ old ++ encode_lower all
    → added ++ encode_lower more ≡ old ++ encode_lower all
unfolding encode_with
digits-more old before added all rest b more first adds so_far =
    ap (λ l. l ++ encode_lower more) adds
    ∙ append_assoc before (encode_lower (b ∷ [])) (encode_lower more)
    ∙ ap (λ l. before ++ encode_lower l) (sym first) ∙ so_far

-- no byte is left
pub digits-end : (before all rest : List ℕ) → length rest ≡ 0 → before ++ encode_lower rest ≡ all
    → before ≡ all
unfolding encode_with
digits-end before all [] none so_far = sym (append-nil before) ∙ so_far
digits-end before all (b ∷ rest) none so_far = absurd (cc)

digits-append : (xs ys : List ℕ) → encode_lower (xs ++ ys) ≡ encode_lower xs ++ encode_lower ys
unfolding encode_with
digits-append [] ys = refl
digits-append (x ∷ xs) ys = ap (λ l. encode_lower (x ∷ []) ++ l) (digits-append xs ys)

-- the digits of an instruction more
pub digits-op : (old before added all : List ℕ) (op : Op) (rest more : List Op) → rest ≡ op ∷ more
    → added ≡ before ++ encode_lower (encoding_of op)
    → before ++ encode_lower (encoding rest) ≡ old ++ encode_lower all
    → added ++ encode_lower (encoding more) ≡ old ++ encode_lower all
digits-op old before added all op rest more first adds so_far =
    ap (λ l. l ++ encode_lower (encoding more)) adds
    ∙ append_assoc before (encode_lower (encoding_of op)) (encode_lower (encoding more))
    ∙ ap (λ l. before ++ l) (sym (digits-append (encoding_of op) (encoding more)))
    ∙ ap (λ ops. before ++ encode_lower (encoding ops)) (sym first) ∙ so_far

-- no instruction is left
pub digits-last : (before all : List ℕ) (rest : List Op) → length rest ≡ 0
    → before ++ encode_lower (encoding rest) ≡ all → before ≡ all
digits-last before all [] none so_far = digits-end before all [] refl so_far
digits-last before all (op ∷ rest) none so_far = absurd (cc)

-- the bytes of an instruction are in their range, and so are those of the others
pub bytes-op : (op : Op) (rest more : List Op) → rest ≡ op ∷ more
    → AllByRecursion IsByte (encoding_of op) → AllByRecursion IsByte (encoding more)
    → AllByRecursion IsByte (encoding rest)
bytes-op op rest more first here others =
    subst (λ ops. AllByRecursion IsByte (encoding ops)) (sym first)
    (each-append IsByte (encoding_of op) (encoding more) here others)

pub bytes-none : (rest : List Op) → length rest ≡ 0 → AllByRecursion IsByte (encoding rest)
bytes-none [] none = tt
bytes-none (op ∷ rest) none = absurd (cc)
