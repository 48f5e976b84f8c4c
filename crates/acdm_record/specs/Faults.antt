-- Which bytes are those of a record, and what is wrong with all others. Layout and order of the
-- tests: this project's profile.
use Rattle.std.specs.Prelude.{ℕ, ◌≡◌, Bool, not, ◌&&◌, ◌||◌, ◌==◌, List, [], ◌∷◌, length, drop, Option}
use Rattle.std.specs.Prelude.{find}
use Rattle.std.specs.List.{before_first, position_or_len, list_all}
use Rattle.acdm_record.specs.declared.fault.RecordError.{RecordError}
use Rattle.acdm_record.specs.declared.fault.RecordError.TheVariants.{WrongLength, UnknownLayout}
use Rattle.acdm_record.specs.declared.fault.RecordError.TheVariants.{MalformedText, ReservedBits}
use Rattle.acdm_record.specs.declared.fault.RecordError.TheVariants.{ReservedBytes}
use Rattle.acdm_record.specs.declared.field.Field.TheVariants.{Reached, Alerts, Layout}
use Rattle.acdm_record.specs.Place.{text_offset_of, text_width_of, text_fields}
use Rattle.acdm_record.specs.Fields.{part, number_at, is_text, is_layout, bytes_in_layout, are_zeros}
use Rattle.acdm_record.specs.Fields.{is_reached_word, is_alert_word, IsRecord}

-- the bytes that a record can have
pub record AreOfRecord (bytes : List ℕ) : Type 0 where
  pub whole : length bytes ≡ bytes_in_layout (number_at bytes Layout)
  pub kept : IsRecord bytes

-- printable bytes, and nothing but zeros from the first zero on
abbrev pub is_filled : List ℕ → Bool
is_filled p = is_text (before_first (λ b. b == 0) p)
    && are_zeros (drop (position_or_len (λ b. b == 0) p) p)

-- whether this is a layout, and that of so many bytes
abbrev pub is_layout_of : ℕ → ℕ → Bool
is_layout_of long l = is_layout l && long == bytes_in_layout l

-- whether this is wrong with bytes that are so many; there may be zeros behind them
abbrev pub has_fault : ℕ → List ℕ → RecordError → Bool
has_fault long b WrongLength = not (long == 128 || long == 160)
has_fault long b UnknownLayout = not (is_layout_of long (number_at b Layout))
has_fault long b MalformedText =
    not (list_all (λ t. is_filled (part (text_offset_of t) (text_width_of t) b)) text_fields)
has_fault long b ReservedBits = not (is_reached_word (number_at b Reached)
    && is_alert_word (number_at b Alerts))
has_fault long b ReservedBytes = not (are_zeros (drop 144 b))

-- the order in which faults count
abbrev pub faults : List RecordError
faults = WrongLength ∷ UnknownLayout ∷ MalformedText ∷ ReservedBits ∷ ReservedBytes ∷ []

unfoldable pub first_fault_in : ℕ → List ℕ → Option RecordError
first_fault_in long b = find (has_fault long b) faults

abbrev pub first_fault : List ℕ → Option RecordError
first_fault b = first_fault_in (length b) b

-- the number of a fault
abbrev pub code_of : RecordError → ℕ
code_of WrongLength = 1
code_of UnknownLayout = 2
code_of MalformedText = 3
code_of ReservedBits = 4
code_of ReservedBytes = 5
