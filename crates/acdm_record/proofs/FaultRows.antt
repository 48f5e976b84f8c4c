-- Worked rows: the bytes of a record, and one fault of each kind beside them.
use Rattle.std.proofs.Common.{◌≡◌, ℕ, List, [], ◌∷◌, ◌++◌, take, set, replicate, Some, None, refl}
use Rattle.acdm_record.specs.declared.fault.RecordError.TheVariants.{WrongLength, UnknownLayout}
use Rattle.acdm_record.specs.declared.fault.RecordError.TheVariants.{MalformedText, ReservedBits}
use Rattle.acdm_record.specs.declared.fault.RecordError.TheVariants.{ReservedBytes}
use Rattle.acdm_record.specs.declared.field.Field.TheVariants.{Eczt, Aezt}
use Rattle.acdm_record.specs.Fields.{bytes_of, fields_at, number_of}
use Rattle.acdm_record.specs.Faults.{first_fault, first_fault_in}

-- flight 7, scheduled and planned
abbrev planned : List ℕ
planned =
    (7 ∷ 0 ∷ 0 ∷ 0 ∷ 0 ∷ 0 ∷ 0 ∷ 0 ∷ 68 ∷ 76 ∷ 72 ∷ 55 ∷ 0 ∷ 0 ∷ 0 ∷ 0 ∷ 65 ∷ 51 ∷ 50 ∷ 48 ∷ 65 ∷ 51
    ∷ 50 ∷ 48 ∷ 68 ∷ 65 ∷ 73 ∷ 66 ∷ 67 ∷ 0 ∷ 0 ∷ 0 ∷ 68 ∷ 65 ∷ 73 ∷ 66 ∷ 67 ∷ 0 ∷ 0 ∷ 0 ∷ 69
    ∷ 68 ∷ 68 ∷ 77 ∷ 69 ∷ 68 ∷ 68 ∷ 77 ∷ 3 ∷ 0 ∷ 0 ∷ 0 ∷ 0 ∷ 0 ∷ 0 ∷ 0 ∷ 40 ∷ 0 ∷ 10 ∷ 0 ∷ 12
    ∷ 0 ∷ 1 ∷ 5 ∷ 56 ∷ 132 ∷ 186 ∷ 1 ∷ 56 ∷ 132 ∷ 186 ∷ 1 ∷ []) ++ replicate 56 0

no_fault : first_fault planned ≡ None
unfolding first_fault_in
no_fault = refl

given_back : bytes_of (fields_at planned) ≡ planned
unfolding bytes_of
given_back = refl

one_byte_short : first_fault (take 127 planned) ≡ Some WrongLength
unfolding first_fault_in
one_byte_short = refl

another_layout : first_fault (set planned 62 2) ≡ Some UnknownLayout
unfolding first_fault_in
another_layout = refl

-- "D", a zero byte, "L"
text_with_a_hole : first_fault (set (set (set planned 9 0) 10 76) 11 0) ≡ Some MalformedText
unfolding first_fault_in
text_with_a_hole = refl

reached_bit_17 : first_fault (set planned 50 2) ≡ Some ReservedBits
unfolding first_fault_in
reached_bit_17 = refl

alert_bit_0 : first_fault (set planned 52 1) ≡ Some ReservedBits
unfolding first_fault_in
alert_bit_0 = refl

alert_bit_6 : first_fault (set planned 52 64) ≡ Some ReservedBits
unfolding first_fault_in
alert_bit_6 = refl

-- of several faults the first one counts
layout_before_text : first_fault (set (set (set planned 52 64) 62 0) 16 32) ≡ Some UnknownLayout
unfolding first_fault_in
layout_before_text = refl

text_before_bits : first_fault (set (set planned 52 64) 16 32) ≡ Some MalformedText
unfolding first_fault_in
text_before_bits = refl

-- the same record in layout 2, with de-icing from 29000580 to 29000581
abbrev deiced : List ℕ
deiced = set planned 62 2
    ++ 132 ∷ 131 ∷ 186 ∷ 1 ∷ 0 ∷ 0 ∷ 0 ∷ 0 ∷ 0 ∷ 0 ∷ 0 ∷ 0 ∷ 133 ∷ 131 ∷ 186 ∷ 1 ∷ replicate 16 0

no_fault_with_deicing : first_fault deiced ≡ None
unfolding first_fault_in
no_fault_with_deicing = refl

given_back_with_deicing : bytes_of (fields_at deiced) ≡ deiced
unfolding bytes_of
given_back_with_deicing = refl

commencement : number_of (fields_at deiced) Eczt ≡ 29000580
commencement = refl

end_of_deicing : number_of (fields_at deiced) Aezt ≡ 29000581
end_of_deicing = refl

one_byte_short_of_layout_2 : first_fault (take 159 deiced) ≡ Some WrongLength
unfolding first_fault_in
one_byte_short_of_layout_2 = refl

layout_1_in_160_bytes : first_fault (set deiced 62 1) ≡ Some UnknownLayout
unfolding first_fault_in
layout_1_in_160_bytes = refl

layout_3 : first_fault (set deiced 62 3) ≡ Some UnknownLayout
unfolding first_fault_in
layout_3 = refl

first_byte_behind_deicing : first_fault (set deiced 144 1) ≡ Some ReservedBytes
unfolding first_fault_in
first_byte_behind_deicing = refl

last_byte : first_fault (set deiced 159 1) ≡ Some ReservedBytes
unfolding first_fault_in
last_byte = refl

bits_before_last_byte : first_fault (set (set deiced 159 1) 52 64) ≡ Some ReservedBits
unfolding first_fault_in
bits_before_last_byte = refl
