use Rattle.std.proofs.Common.{ℕ, ◌+◌, ◌++◌, ◌∷◌, ◌<◌, ◌^◌, ◌/◌, List, []}
use Rattle.std.proofs.Common.{cond, append-nil, sym, ap, ◌∙◌, refl, arith, rules, w64}
use Rattle.std.specs.Int.{trailing_zeros}
use Rattle.acdm_alerts.specs.Names.{name_of, names_text}
use Rattle.acdm_alerts.proofs.NameTexts.{named-start, named-next, named-set, named-last}
use Rattle.acdm_alerts.proofs.NameTexts.{named-end, next_bit, pushed, pushed-short}
use Rattle.acdm_alerts.proofs.names.push_names.Goals as goal

pub loop-bit-init : goal.loop-bit-init
loop-bit-init g c = record {
  bytes = [];
  inside = omega arith;
  there = sym (append-nil c.args.text.now.items);
  named = named-start c.from-word.result;
}

pub loop-bit-smaller : goal.loop-bit-smaller
loop-bit-smaller g c =
    let fits : c.from-word.result < 2 ^ 32 = search rules in
    let next = next_bit c.from-word.result c.loop-bit.bit fits c.loop-bit-test.true in
    omega (arith, next.inside)

pub loop-bit-preserved : goal.loop-bit-preserved
loop-bit-preserved g c =
    let fits : c.from-word.result < 2 ^ 32 = search rules in
    let next = next_bit c.from-word.result c.loop-bit.bit fits c.loop-bit-test.true in
    let old = c.loop-bit.invariant in
    let at = named-next old.bytes c.loop-bit.is_first c.from-word.result c.loop-bit.bit _ next
    old.named in
    let bit : ℕ = c.loop-bit.bit + trailing_zeros w64 (c.from-word.result / 2 ^ c.loop-bit.bit) in
    let piece : List ℕ = cond c.loop-bit.is_first [] (44 ∷ []) ++ name_of bit in
    let short = pushed-short old.bytes piece c.loop-bit.text.items c.push_name.new.names.items
    c.push_name.ensures.text c.push_name.ensures.short in
    record {
      bytes = old.bytes ++ piece;
      inside = omega (arith, next.inside);
      there = pushed c.args.text.now.items old.bytes piece c.loop-bit.text.items _ old.there
          c.push_name.ensures.text;
      named = named-set old.bytes c.loop-bit.is_first c.from-word.result bit next.inside at
          (old.bytes ++ piece) next.is_set refl short;
    }

pub returns-clause-names : goal.returns-clause-names
returns-clause-names g c =
    let old = c.loop-bit.invariant in
    let all = named-end old.bytes c.loop-bit.is_first c.from-word.result
    (named-last old.bytes c.loop-bit.is_first c.from-word.result c.loop-bit.bit old.inside
    c.loop-bit-test.false old.named) in
    old.there ∙ ap (λ l. c.args.text.now.items ++ l)
    (all ∙ ap names_text (c.from-word.ensures ∙ c.word.ensures.value))
