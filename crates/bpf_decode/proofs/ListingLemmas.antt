-- Sixteen hexadecimal digits.
use Rattle.std.proofs.Common.{◌≡◌, ℕ, ◌-◌, ◌^◌, false, List, [], ◌++◌, length, replicate, ap, ◌∙◌}
use Rattle.std.proofs.Common.{arith}
use Rattle.std.specs.Fmt.{digits, format_spec, padded_integral, char_count}
use Rattle.std.proofs.lemmas.List.{append-nil}
use Rattle.bpf_decode.specs.Listing.{hex_text}

-- what `{:016x}` writes
pub hex_text-is : (n : ℕ) → padded_integral (format_spec 32 0 4 16 (2 ^ 64 - 1)) false []
    (digits 16 false n) ≡ hex_text n
unfolding padded_integral char_count
hex_text-is n =
    let shown = digits 16 false n in
    let zeros : 16 - length shown - 0 - 0 ≡ 16 - length shown = omega arith in
    ap (λ (k : ℕ). replicate k 48 ++ (shown ++ [])) zeros
    ∙ ap (λ (x : List ℕ). replicate (16 - length shown) 48 ++ x) (append-nil shown)
