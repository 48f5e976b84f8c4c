-- Lines and fields that need memory, and some that need none, computed by the definitions alone.
use Rattle.std.proofs.Common.{◌≡◌, [], ◌∷◌, ◌++◌, codes, true, false, refl}
use Rattle.std.specs.Char.{encode_utf8}
use Rattle.std.specs.Str.{is_utf8, chars}
use Rattle.acdm_wire.specs.Meant.{head_of, natural_of}
use Rattle.acdm_wire.specs.Memory.{asked_needs_memory, request_needs_memory}

a_request : request_needs_memory (codes "1 29000580 APT {\"cmd\":\"tick\"}") ≡ true
unfolding request_needs_memory head_of natural_of is_utf8 chars encode_utf8
a_request = refl

-- whether it is JSON is found by reading it
no_json : request_needs_memory (codes "1 29000580 APT }") ≡ true
unfolding request_needs_memory head_of natural_of is_utf8 chars encode_utf8
no_json = refl

empty_json : request_needs_memory (codes "1 29000580 APT ") ≡ false
unfolding request_needs_memory head_of natural_of is_utf8 chars encode_utf8
empty_json = refl

no_text : request_needs_memory (codes "1 29000580 APT {" ++ 255 ∷ 125 ∷ []) ≡ false
unfolding request_needs_memory head_of natural_of is_utf8 chars encode_utf8
no_text = refl

empty_line : request_needs_memory [] ≡ false
unfolding request_needs_memory head_of natural_of is_utf8 chars encode_utf8
empty_line = refl

no_session : request_needs_memory (codes "65 29000580 APT {\"cmd\":\"tick\"}") ≡ false
unfolding request_needs_memory head_of natural_of is_utf8 chars encode_utf8
no_session = refl

no_minute : request_needs_memory (codes "1 0 APT {\"cmd\":\"tick\"}") ≡ false
unfolding request_needs_memory head_of natural_of is_utf8 chars encode_utf8
no_minute = refl

no_role : request_needs_memory (codes "1 29000580 ABC {\"cmd\":\"tick\"}") ≡ false
unfolding request_needs_memory head_of natural_of is_utf8 chars encode_utf8
no_role = refl

asked : asked_needs_memory (codes "{\"cmd\":\"tick\"}") ≡ true
unfolding asked_needs_memory is_utf8 chars encode_utf8
asked = refl

nothing_asked : asked_needs_memory [] ≡ false
unfolding asked_needs_memory is_utf8 chars encode_utf8
nothing_asked = refl

no_text_asked : asked_needs_memory (123 ∷ 128 ∷ 125 ∷ []) ≡ false
unfolding asked_needs_memory is_utf8 chars encode_utf8
no_text_asked = refl
