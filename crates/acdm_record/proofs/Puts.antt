-- What a record is after a field was written through a slice of its bytes.
use Rattle.std.proofs.Common.{◌≡◌, ℕ, ◌+◌, ◌-◌, ◌<◌, ◌≤◌, ◌^◌, true, List, ◌++◌, length, take, drop}
use Rattle.std.proofs.Common.{sym, ap, ◌∙◌, subst, arith}
use Rattle.std.proofs.lemmas.Slice.{drop-put_mid}
use borrow.Rule.Slice.PartMut.{put_mid}
use Rattle.byteorder.specs.Endian.{little_bytes}
use Rattle.byteorder.specs.Numbers.{length-bytes_low_first}
use Rattle.acdm_record.specs.declared.field.Field.{Field}
use Rattle.acdm_record.specs.declared.field.TextField.{TextField}
use Rattle.acdm_record.specs.Place.{offset_of, width_of, text_offset_of, text_width_of}
use Rattle.acdm_record.specs.Fields.{fields_at, set_number, set_text, padded, is_text, ArePadded}
use Rattle.acdm_record.proofs.Places.{written, written_text, fields_at-put, fields_at-put_text}
use Rattle.acdm_record.proofs.Places.{padded-put, padded-put_text, length-padded, text_inside}

module _ (f : Field) (v o w : ℕ) (b ys : List ℕ) (eo : o ≡ offset_of f) (ew : w ≡ width_of f)
    (long : length b ≡ 160) (inside : o + w ≤ 144)
    (e : ys ≡ little_bytes w v ++ drop w (take (o + w - o) (drop o b))) where
  same : put_mid o (o + w - o) b ys ≡ put_mid (offset_of f) (width_of f) b
      (little_bytes (width_of f) v)
  same = written f v o w b ys eo ew e

  pub number_put : v < 256 ^ width_of f → fields_at (put_mid o (o + w - o) b ys)
      ≡ set_number (fields_at b) f v
  number_put fits = ap fields_at same ∙ fields_at-put f v b (omega arith) fits

  pub number_padded : ArePadded b → ArePadded (put_mid o (o + w - o) b ys)
  number_padded h = subst ArePadded (sym same) (padded-put f v b (omega arith) h)

  pub number_spare : drop 144 (put_mid o (o + w - o) b ys) ≡ drop 144 b
  number_spare = ap (drop 144) same ∙ drop-put_mid (offset_of f) (width_of f) b
      (little_bytes (width_of f) v) 144 (omega arith) (omega arith)
      (length-bytes_low_first 0 (width_of f) v)

module _ (t : TextField) (v : List ℕ) (o w : ℕ) (b ys : List ℕ) (eo : o ≡ text_offset_of t)
    (ew : w ≡ text_width_of t) (long : length b ≡ 160)
    (e : ys ≡ padded (length (take (o + w - o) (drop o b))) v) (printable : is_text v ≡ true)
    (short : length v ≤ text_width_of t) where
  end : text_offset_of t + text_width_of t ≤ 128
  end = text_inside t

  same_text : put_mid o (o + w - o) b ys ≡ put_mid (text_offset_of t) (text_width_of t) b
      (padded (text_width_of t) v)
  same_text = written_text t v o w b ys eo ew (omega (arith, end)) e

  pub text_put : fields_at (put_mid o (o + w - o) b ys) ≡ set_text (fields_at b) t v
  text_put = ap fields_at same_text ∙ fields_at-put_text t v b (omega (arith, end)) printable short

  pub text_padded : ArePadded b → ArePadded (put_mid o (o + w - o) b ys)
  text_padded h = subst ArePadded (sym same_text)
      (padded-put_text t v b (omega (arith, end)) printable short h)

  pub text_spare : drop 144 (put_mid o (o + w - o) b ys) ≡ drop 144 b
  text_spare = ap (drop 144) same_text ∙ drop-put_mid (text_offset_of t) (text_width_of t) b
      (padded (text_width_of t) v) 144 (omega (arith, end)) (omega (arith, end))
      (length-padded (text_width_of t) v short)
