-- A record of any length has few bytes.
use Rattle.std.proofs.Common.{◌<◌, ◌^◌, arith}
use Rattle.bpf_regstate.specs.declared.length.Length.{Length}
use Rattle.bpf_regstate.specs.declared.length.Length.TheVariants.{L128, L160}
use Rattle.bpf_regstate.specs.Lengths.{bytes_in}

pub few_bytes : (l : Length) → bytes_in l < 2 ^ 16
unfolding bytes_in
few_bytes L128 = omega arith
few_bytes L160 = omega arith
