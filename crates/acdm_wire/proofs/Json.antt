-- What JSON bytes are, by what serde_json ensures of its reader.
use Rattle.std.proofs.Common.{◌≡◌, ℕ, ◌<◌, Bool, List, [], ◌∷◌, length, true, false, cond, Some, None}
use Rattle.std.proofs.Common.{Ok, Err, refl, ap, ◌∙◌, arith}
use Rattle.std.specs.Prelude.{◌&&◌, nat_lt}
use Rattle.std.specs.Str.{is_utf8, IsUtf8}
use Rattle.std.proofs.lemmas.Bool.Decides.{nat_tests}
use Rattle.std.proofs.lemmas.Str.{is_utf8-from_IsUtf8, IsUtf8-from_is_utf8}
use Rattle.serde_json.specs.Data.{Data}
use Rattle.serde_json.specs.Read.{read}
use Rattle.serde_json.proofs.OnLiterals.{serde_json_on_literals}
use Rattle.acdm_wire.specs.declared.fault.RequestFault.TheVariants.{NoJson}
use Rattle.acdm_wire.specs.Meant.{json_of, or_fault}
use Rattle.acdm_wire.specs.Memory.{json_needs_memory}

pub json_ok : (bs : List ℕ) (d : Data) → IsUtf8 bs → read bs ≡ Some d → json_of bs ≡ Ok d
unfolding json_of
json_ok bs d u e =
    ap (λ b. cond b (or_fault NoJson (read bs)) (Err NoJson)) (is_utf8-from_IsUtf8 bs u)
    ∙ ap (or_fault NoJson) e

pub json_bad : (bs : List ℕ) → (IsUtf8 bs → read bs ≡ None) → json_of bs ≡ Err NoJson
unfolding json_of
json_bad bs h =
    elim (is_utf8 bs) as (λ b. is_utf8 bs ≡ b
    → cond b (or_fault NoJson (read bs)) (Err NoJson) ≡ Err NoJson) [
      | true ↦ λ e. ap (or_fault NoJson) (h (IsUtf8-from_is_utf8 bs e))
      | false ↦ λ e. refl
    ] refl

-- ---- which texts need memory

both : (a b : Bool) → a ≡ true → b ≡ true → (a && b) ≡ true
both a b p q = cc

some_bytes : (n : ℕ) → 0 < n → nat_lt 0 n ≡ true
some_bytes n h = grind (arith, nat_tests)

pub text_needs : (bs : List ℕ) → IsUtf8 bs → 0 < length bs → json_needs_memory bs ≡ true
text_needs bs u h = both _ _ (is_utf8-from_IsUtf8 bs u) (some_bytes (length bs) h)

empty_read : read [] ≡ None
unfolding serde_json_on_literals
empty_read = refl

-- what is read is no empty text
pub read_needs : (bs : List ℕ) (d : Data) → IsUtf8 bs → read bs ≡ Some d
    → json_needs_memory bs ≡ true
read_needs [] d u e = absurd (cc empty_read)
read_needs (b ∷ bs) d u e = text_needs (b ∷ bs) u (omega arith)

pub not_both : (b : Bool) → b ≡ true → b ≡ false → ⊥
not_both b p q = cc
