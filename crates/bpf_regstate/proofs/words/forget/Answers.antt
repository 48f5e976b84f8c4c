use Rattle.std.proofs.Common.{◌≡◌, ℕ, ◌+◌, ◌-◌, ◌≤◌, ◌<◌, min, max, length, sym, arith, inl, inr}
use Rattle.std.proofs.Common.{⊎_elim}
use Rattle.std.proofs.lemmas.Bool.{cases_lt}
use Rattle.bpf_regstate.proofs.KeptWords.{without_none, without_step, without_end}
use Rattle.bpf_regstate.proofs.words.forget.Goals as goal

pub loop-place-init : goal.loop-place-init
loop-place-init c =
    let none : c.args.word - c.args.word ≡ 0 = omega arith in
    rw none (sym (without_none c.args.words.now.items c.args.word))

pub loop-place-preserved : goal.loop-place-preserved
loop-place-preserved c =
    let there : c.loop-place.place < length c.args.words.now.items = omega (
      arith,
      c.loop-place-test.true,
      c.max-end.ensures,
      c.min.ensures,
      c.len.ensures,
      c.args.words.now.ok,
    ) in
    without_step c.args.words.now.items c.loop-place.words.items c.args.word c.loop-place.place
    c.loop-place.auto.place there c.loop-place.invariant

pub returns : goal.returns
returns c =
    let whole : ℕ = c.args.word + c.args.count in
    let last : ℕ = length c.args.words.now.items in
    let end : c.max-end.result ≡ max (min whole last) c.args.word =
    omega (arith, c.max-end.ensures, c.min.ensures, c.len.ensures, c.args.words.now.ok) in
    without_end c.args.words.now.items c.loop-place.words.items c.args.word c.loop-place.place
    c.args.count c.loop-place.auto.place (omega (arith, c.loop-place.auto.place-end, end))
    (⊎_elim
    (λ (short : last < whole). inr (omega (arith, c.loop-place-test.false, end, short)))
    (λ (long : whole ≤ last). inl (omega (arith, c.loop-place-test.false, end, long)))
    (cases_lt last whole))
    c.loop-place.invariant
