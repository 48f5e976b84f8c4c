-- How many bytes a record has (this project's profile).
use Rattle.std.specs.Prelude.{ℕ, Bool, true, false}
use Rattle.bpf_regstate.specs.declared.length.Length.{Length}
use Rattle.bpf_regstate.specs.declared.length.Length.TheVariants.{L128, L160}

unfoldable pub bytes_in : Length → ℕ
bytes_in L128 = 128
bytes_in L160 = 160

abbrev pub same_length : Length → Length → Bool
same_length L128 L128 = true
same_length L160 L160 = true
same_length _ _ = false
