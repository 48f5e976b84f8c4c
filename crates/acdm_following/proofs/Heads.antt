-- What a first line says, by what serde_json ensures of its reader.
use Rattle.std.proofs.Common.{◌≡◌, ℕ, Bool, List, true, false, cond, Some, None, refl, ap, ◌∙◌}
use Rattle.std.specs.Str.{is_utf8, IsUtf8}
use Rattle.std.proofs.lemmas.Str.{is_utf8-from_IsUtf8, IsUtf8-from_is_utf8}
use Rattle.serde_json.specs.Data.{Data}
use Rattle.serde_json.specs.Read.{read}
use Rattle.acdm_following.specs.Heads.{json_of}

pub json_ok : (bs : List ℕ) (d : Data) → IsUtf8 bs → read bs ≡ Some d → json_of bs ≡ Some d
unfolding json_of
json_ok bs d u e = ap (λ b. cond b (read bs) None) (is_utf8-from_IsUtf8 bs u) ∙ e

pub json_none : (bs : List ℕ) → (IsUtf8 bs → read bs ≡ None) → json_of bs ≡ None
unfolding json_of
json_none bs h =
    elim (is_utf8 bs) as (λ b. is_utf8 bs ≡ b → cond b (read bs) None ≡ None) [
      | true ↦ λ e. h (IsUtf8-from_is_utf8 bs e)
      | false ↦ λ e. refl
    ] refl

pub not_both : (b : Bool) → b ≡ true → b ≡ false → ⊥
not_both b p q = cc
