-- Printable bytes are ASCII, so they are UTF-8.
use Rattle.std.proofs.Common.{ℕ, zero, suc, List, [], ◌∷◌, ◌≡◌, true, ◌<◌, arith}
use Rattle.std.specs.Cmp.{first_so, second_so}
use Rattle.std.proofs.lemmas.Str.Ascii.{IsAscii-nil}
use Rattle.std.specs.Prelude.{IsUtf8, IsAscii}
use Rattle.std.proofs.lemmas.Str.{IsUtf8-from_ascii}
use Rattle.acdm_record.specs.Fields.{is_text, is_text_byte}

below : (b : ℕ) → is_text_byte b ≡ true → b < 128
below b h = grind arith

pub printable_ascii : (bytes : List ℕ) → is_text bytes ≡ true → IsAscii bytes
printable_ascii [] h i = IsAscii-nil i
printable_ascii (b ∷ bs) h zero = below b (first_so _ _ h)
printable_ascii (b ∷ bs) h (suc i) = printable_ascii bs (second_so _ _ h) i

pub printable_utf8 : (bytes : List ℕ) → is_text bytes ≡ true → IsUtf8 bytes
printable_utf8 bytes h = IsUtf8-from_ascii bytes (printable_ascii bytes h)
