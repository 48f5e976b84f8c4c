-- Two texts are the same where the bytes at their places are, read as numbers.
use Rattle.std.proofs.Common.{◌≡◌, ℕ, ◌≤◌, ◌<◌, ◌==◌, List, length, slice_index, sym, ap, subst}
use Rattle.std.proofs.Common.{◌∙◌}
use Rattle.std.specs.Bool.{Decides, one_answer}
use Rattle.std.specs.Cmp.{unsigned_Decides}
use Rattle.std.specs.Str.{bytes_eq}
use Rattle.std.specs.List.{before_first}
use Rattle.std.proofs.lemmas.Slice.Eq.{bytes_eq-Decides}
use Rattle.byteorder.specs.Endian.{little_number, little_bytes}
use Rattle.acdm_record.specs.declared.field.TextField.{TextField}
use Rattle.acdm_record.specs.Place.{text_offset_of, text_width_of}
use Rattle.acdm_record.specs.Fields.{part, text_at, text_of, fields_at, number_at, padded, ArePadded}
use Rattle.acdm_record.proofs.Places.{text_of-fields_of, length-padded}
use Rattle.acdm_record.proofs.Kept.{text_short}
use Rattle.acdm_record.proofs.Whole.{number_bytes, part_bytes}

module _ (b : List ℕ) (bytes : (i : ℕ) → slice_index b i < 256) (filled : ArePadded b) where
  abbrev at : TextField → List ℕ
  at t = part (text_offset_of t) (text_width_of t) b

  abbrev number_in : TextField → ℕ
  number_in t = little_number (text_width_of t) (at t)

  text_is : (t : TextField) → text_of (fields_at b) t ≡ text_at b t
  text_is t = text_of-fields_of (number_at b) (text_at b) t

  long : (t : TextField) → length (at t) ≡ text_width_of t
  long t = ap length (filled t) ∙ length-padded (text_width_of t) (text_at b t)
      (subst (λ x. length x ≤ text_width_of t) (text_is t) (text_short b t))

  -- the bytes of a place, from their number
  bytes_from : (t : TextField) → little_bytes (text_width_of t) (number_in t) ≡ at t
  bytes_from t = number_bytes (text_width_of t) (at t) (long t)
      (part_bytes b bytes filled (text_offset_of t) (text_width_of t))

  pub same_by_number : (t u : TextField) → text_width_of t ≡ text_width_of u
      → (number_in t == number_in u) ≡ bytes_eq (text_of (fields_at b) t) (text_of (fields_at b) u)
  same_by_number t u width =
      one_answer (number_in t == number_in u)
      (bytes_eq (text_of (fields_at b) t) (text_of (fields_at b) u)) (
        (λ e. texts (numbers.0 e)),
        (λ same. numbers.1 (places same)),
      )
      (bytes_eq-Decides (text_of (fields_at b) t) (text_of (fields_at b) u))
    where
      numbers : Decides (number_in t == number_in u) (number_in t ≡ number_in u)
      numbers = unsigned_Decides (number_in t) (number_in u)

      texts : number_in t ≡ number_in u → text_of (fields_at b) t ≡ text_of (fields_at b) u
      texts e =
          let same : at t ≡ at u = sym (bytes_from t)
          ∙ ap (λ w. little_bytes w (number_in t)) width
          ∙ ap (little_bytes (text_width_of u)) e ∙ bytes_from u in
          text_is t ∙ ap (before_first (λ x. x == 0)) same ∙ sym (text_is u)

      places : text_of (fields_at b) t ≡ text_of (fields_at b) u → number_in t ≡ number_in u
      places e =
          let text : text_at b t ≡ text_at b u = sym (text_is t) ∙ e ∙ text_is u in
          let same : at t ≡ at u = filled t ∙ ap (padded (text_width_of t)) text
          ∙ ap (λ w. padded w (text_at b u)) width ∙ sym (filled u) in
          ap (little_number (text_width_of t)) same
          ∙ ap (λ w. little_number w (at u)) width
