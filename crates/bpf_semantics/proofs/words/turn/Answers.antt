use Rattle.std.proofs.Common.{◌≡◌, ◌%◌, ◌^◌, ap, sym, ◌∙◌, arith}
use Rattle.std.specs.Int.{swap_bytes, w64}
use Rattle.bpf_semantics.proofs.words.turn.Goals as goal

pub returns-in-Eight : goal.returns-in-Eight
returns-in-Eight c =
    let e : c.args.a % 2 ^ 64 ≡ c.args.a = omega arith in
    rw c.in-Eight.is (c.swap_bytes-in-Eight.ensures ∙ ap (swap_bytes w64) (sym e))
