use Rattle.std.proofs.Common.{◌≡◌, ◌++◌, ◌∷◌, drop, string_bytes}
use Rattle.std.specs.List.{flat_map}
use Rattle.acdm_partners.specs.Came.{json_byte}
use Rattle.acdm_partners.proofs.counts.add_json.Given as goal

abbrev pub invariant-loop-byte : goal.invariant-loop-byte
invariant-loop-byte l =
    string_bytes l.text ++ flat_map json_byte (drop l.byte-index l.bytes)
    ≡ string_bytes l.fn.text ++ 34 ∷ flat_map json_byte l.bytes
