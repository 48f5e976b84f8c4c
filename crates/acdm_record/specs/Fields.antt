-- What a record is: a number for each number field and a text for each text field; and its bytes.
use Rattle.std.specs.Prelude.{ℕ, ◌-◌, ◌≡◌, Bool, true, ◌==◌, ◌&&◌, ◌||◌, if◌then◌else◌, nat_le, nat_lt}
use Rattle.std.specs.Prelude.{List, [], ◌++◌}
use Rattle.std.specs.Prelude.{map, length, take, drop, slice_index, slice_index_or, slice_set}
use Rattle.std.specs.Prelude.{replicate}
use Rattle.std.specs.List.{flat_map, before_first, list_all}
use Rattle.std.specs.Int.{bit_at}
use Rattle.byteorder.specs.Endian.{little_number, little_bytes}
use Rattle.acdm_record.specs.declared.field.Field.{Field}
use Rattle.acdm_record.specs.declared.field.Field.TheVariants.{Flight, Reached, Alerts, Layout}
use Rattle.acdm_record.specs.declared.field.Field.TheVariants.{Eczt, Eezt, Aczt, Aezt}
use Rattle.acdm_record.specs.declared.field.TextField.{TextField}
use Rattle.acdm_record.specs.Place.{offset_of, width_of, index_of, fields, text_offset_of}
use Rattle.acdm_record.specs.Place.{text_width_of, text_index_of, text_fields, Name, number, text}
use Rattle.acdm_record.specs.Place.{layout, deicing}

-- the numbers in the order of `fields`, and the texts in that of `text_fields`
pub record Fields : Type 0 where
  pub numbers : List ℕ
  pub texts : List (List ℕ)

-- the record that has these values
abbrev pub fields_of : (Field → ℕ) → (TextField → List ℕ) → Fields
fields_of n t = record { numbers = map n fields; texts = map t text_fields }

-- the value under a name
abbrev pub number_of : Fields → Field → ℕ
number_of r f = slice_index r.numbers (index_of f)

abbrev pub text_of : Fields → TextField → List ℕ
text_of r t = slice_index_or r.texts (text_index_of t) []

-- the record with another value under one name
abbrev pub set_number : Fields → Field → ℕ → Fields
set_number r f v = record { numbers = slice_set r.numbers (index_of f) v; texts = r.texts }

abbrev pub set_text : Fields → TextField → List ℕ → Fields
set_text r t v = record { numbers = r.numbers; texts = slice_set r.texts (text_index_of t) v }

-- a text, and zero bytes up to the width
abbrev pub padded : ℕ → List ℕ → List ℕ
padded width t = t ++ replicate (width - length t) 0

-- the bytes of one field
abbrev pub spelled : Fields → Name → List ℕ
spelled r (number f) = little_bytes (width_of f) (number_of r f)
spelled r (text t) = padded (text_width_of t) (text_of r t)

-- the layouts of a record, and how many bytes it has in each
abbrev pub is_layout : ℕ → Bool
is_layout l = l == 1 || l == 2

abbrev pub bytes_in_layout : ℕ → ℕ
bytes_in_layout l = if l == 2 then 160 else 128

abbrev pub length_of : Fields → ℕ
length_of r = bytes_in_layout (number_of r Layout)

-- what a layout has behind the fields of layout 1: layout 2 the times of de-icing, and zeros
abbrev pub added_bytes : Fields → ℕ → List ℕ
added_bytes r l = if l == 2 then flat_map (spelled r) deicing ++ replicate 16 0 else []

-- the bytes of a record
unfoldable pub bytes_of : Fields → List ℕ
bytes_of r = flat_map (spelled r) layout ++ added_bytes r (number_of r Layout)

-- the bytes at a place
abbrev pub part : ℕ → ℕ → List ℕ → List ℕ
part offset width bytes = take width (drop offset bytes)

-- what bytes say under a name
abbrev pub number_at : List ℕ → Field → ℕ
number_at bytes f = little_number (width_of f) (part (offset_of f) (width_of f) bytes)

abbrev pub text_at : List ℕ → TextField → List ℕ
text_at bytes t = before_first (λ b. b == 0) (part (text_offset_of t) (text_width_of t) bytes)

-- the record that bytes say
abbrev pub fields_at : List ℕ → Fields
fields_at bytes = fields_of (number_at bytes) (text_at bytes)

-- each text is left-justified and filled with zeros
abbrev pub ArePadded : List ℕ → Type 0
ArePadded bytes = (t : TextField)
    → part (text_offset_of t) (text_width_of t) bytes ≡ padded (text_width_of t) (text_at bytes t)

-- the bytes of a text: from 0x21 to 0x7E
abbrev pub is_text_byte : ℕ → Bool
is_text_byte b = nat_le 33 b && nat_le b 126

abbrev pub is_text : List ℕ → Bool
is_text t = list_all is_text_byte t

-- bytes that are nothing but zeros
abbrev pub are_zeros : List ℕ → Bool
are_zeros bytes = list_all (λ b. b == 0) bytes

-- the reached word has no bit above 16, and the alert word has neither bit 0 nor bit 6
abbrev pub is_reached_word : ℕ → Bool
is_reached_word v = nat_lt v 131072

abbrev pub is_alert_word : ℕ → Bool
is_alert_word v = bit_at v 0 == 0 && bit_at v 6 == 0

-- a time of de-icing is 0 where the layout has none
abbrev pub is_added : ℕ → ℕ → Bool
is_added l v = l == 2 || v == 0

-- what a number of a record of this layout may be beside fitting its bytes
abbrev pub is_allowed : ℕ → Field → ℕ → Bool
is_allowed l Layout v = v == l && is_layout l
is_allowed l Reached v = is_reached_word v
is_allowed l Alerts v = is_alert_word v
is_allowed l Eczt v = is_added l v
is_allowed l Eezt v = is_added l v
is_allowed l Aczt v = is_added l v
is_allowed l Aezt v = is_added l v
is_allowed l _ v = true

-- what each number of a record is, and each text
abbrev pub AreAllowed : Fields → Type 0
AreAllowed r = (f : Field) → is_allowed (number_of r Layout) f (number_of r f) ≡ true

abbrev pub AreTexts : Fields → Type 0
AreTexts r = (t : TextField) → is_text (text_of r t) ≡ true

-- the bytes of a record, with zeros behind them or without: its texts are printable and filled with
-- zeros, its numbers are allowed, and nothing stands behind the times of de-icing
pub record IsRecord (bytes : List ℕ) : Type 0 where
  pub filled : ArePadded bytes
  pub texts : AreTexts (fields_at bytes)
  pub numbers : AreAllowed (fields_at bytes)
  pub spare : are_zeros (drop 144 bytes) ≡ true

-- a new record: the flight number, the layout, and nothing else
abbrev pub new_number : ℕ → Field → ℕ
new_number flight Flight = flight
new_number flight Layout = 1
new_number flight _ = 0

abbrev pub new_record : ℕ → Fields
new_record flight = fields_of (new_number flight) (λ _. [])

-- a record of layout 1 brought to layout 2, in which no time of de-icing is set
abbrev pub migrated_number : Fields → Field → ℕ
migrated_number r Layout = 2
migrated_number r f = number_of r f

abbrev pub migrated : Fields → Fields
migrated r = fields_of (migrated_number r) (text_of r)
