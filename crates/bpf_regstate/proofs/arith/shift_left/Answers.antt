use Rattle.std.proofs.Common.{◌≡◌, ◌<◌, ◌≤◌, ◌*◌, ◌%◌, ◌^◌, ℕ, arith}
use Rattle.std.proofs.lemmas.Nat.{mul-le, shl_whole, mod_below}
use Rattle.std.proofs.Math.Nat.{le_refl}
use Rattle.bpf_regstate.proofs.ResultsInRange.{width_fits}
use Rattle.bpf_regstate.proofs.arith.shift_left.Goals as goal

-- a shift of 64 bits loses nothing in 128
whole : (a s : ℕ) → a < 2 ^ 64 → s < 64 → a * 2 ^ s % 2 ^ 128 ≡ a * 2 ^ s
whole a s h k = shl_whole a 64 s 128 h (omega arith)

shifted : (lo hi s m : ℕ) → lo ≤ hi → hi < 2 ^ 64 → s < 64 → m ≤ 2 ^ 64 → hi * 2 ^ s % 2 ^ 128 < m
    → lo * 2 ^ s % 2 ^ 128 < 2 ^ 64
shifted lo hi s m le h k fits lt =
    let e = whole hi s h k in
    let f = whole lo s (omega arith) k in
    rw f (omega (arith, rw e at lt, mul-le lo (2 ^ s) hi (2 ^ s) le (le_refl (2 ^ s))))

pub overflow_cast-result-then-high-size_of_width-2 : goal.overflow_cast-result-then-high-size_of_width-2
overflow_cast-result-then-high-size_of_width-2 c =
    let below : c.args.b.lo % c.bits.result < 64 =
    omega (arith, mod_below c.args.b.lo c.bits.result c.bits.ensures.positive) in
    let small = shifted c.args.a.lo c.args.a.hi (c.args.b.lo % c.bits.result) c.size_of_width.result
    c.requires (omega arith) below
    (omega (arith, width_fits c.args.width, c.size_of_width.ensures))
    c.if-high-size_of_width.true in
    omega arith
