-- A text is kept with zeros behind it.
use Rattle.std.proofs.Common.{◌≡◌, ℕ, ◌≤◌, true, nat_le, List, length, Option, Some, refl, sym, ap}
use Rattle.std.proofs.Common.{◌∙◌, subst, arith}
use Rattle.acdm_record.specs.Fields.{padded, is_text}
use Rattle.acdm_record.specs.Texts.{text_from, kept_text, IsKept}
use Rattle.acdm_record.proofs.Places.{text-padded}

module _ (most w : ℕ) (t kept : List ℕ) (some : 1 ≤ length t) (short : length t ≤ most)
    (printable : is_text t ≡ true) (e : kept ≡ padded w t) where
  kept-is : kept_text kept ≡ t
  kept-is = ap kept_text e ∙ text-padded w t printable

  pub kept-padded : IsKept most (kept_text kept)
  kept-padded = subst (IsKept most) (sym kept-is)
      record { some = some; short = short; printable = printable }

  pub text_from-padded : ◌≡◌ {A = Option (List ℕ)} (Some (kept_text kept)) (text_from most t)
  text_from-padded =
      let one : nat_le 1 (length t) ≡ true = grind arith in
      let two : nat_le (length t) most ≡ true = grind arith in
      rw (kept-is, one, two, printable) refl
