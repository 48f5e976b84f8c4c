use Rattle.std.proofs.Common.{◌≡◌, ℕ, ◌+◌, ◌*◌, ◌^◌, ◌≤◌, length, drop, refl, sym, subst, ap, ◌∙◌}
use Rattle.std.proofs.Common.{arith, rules}
use Rattle.std.specs.Prelude.{pos}
use Rattle.std.proofs.lemmas.List.{take_rest}
use Rattle.std.specs.Int.{cast_unsigned, w16, w32}
use Rattle.std.specs.Int.RustNames.{FitsSigned}
use Rattle.bpf_decode.specs.declared.insn.Insn.{Insn}
use Rattle.std.proofs.lemmas.Int.{to_z-of_z}
use Rattle.bpf_decode.specs.declared.op.Op.TheVariants.{Wide}
use Rattle.bpf_decode.specs.Slots.{fields}
use Rattle.bpf_decode.specs.Decoding.{Begins}
use Rattle.bpf_decode.specs.Encoding.{cut, tail, IsTailSlot}
use Rattle.bpf_decode.proofs.RowLemmas.{zero16}
use Rattle.bpf_decode.proofs.DecoderLemmas.{wide_begins}
use Rattle.bpf_decode.proofs.decoder.whole_wide.Goals as goal
use Rattle.bpf_decode.proofs.decoder.whole_wide.Goals.{then-tail-ne0-via-then-tail-ne0}
use Rattle.bpf_decode.proofs.decoder.whole_wide.Goals.{then-tail-ne0-via-else-tail-ne0+then-tail-ne0-2}
use Rattle.bpf_decode.proofs.decoder.whole_wide.Goals.{then-tail-ne0-via-else-tail-ne0+else-tail-ne0-2+then-tail-ne0-3}
use Rattle.bpf_decode.proofs.decoder.whole_wide.Goals.{then-tail-ne0-via-else-tail-ne0+else-tail-ne0-2+else-tail-ne0-3+then-tail-ne0-4}

pub returns-then-rest-eq8 : goal.returns-then-rest-eq8
returns-then-rest-eq8 c = (
  0,
  omega arith,
  cut c.if-rest-eq8.true (
    c.args.dst,
    cast_unsigned w32 c.args.first.imm,
    c.requires.wide.0,
    c.requires.wide.1 ∙ c.requires.first,
  ),
)

pub returns-then-tail-ne0 : goal.returns-then-tail-ne0
returns-then-tail-ne0 c =
    let long : 16 ≤ length c.args.rest.now =
    omega (arith, c.requires.long, c.requires.slots, c.if-rest-eq8.false) in
    let is : c.from_bytes-tail.result ≡ fields (drop 8 c.args.rest.now) = c.from_bytes-tail.ensures
    ∙ ap fields (take_rest c.args.rest.now 8) in
    let here = λ (t : IsTailSlot c.from_bytes-tail.result). elim c.then-tail-ne0.branch as (λ _. ⊥) [
      | then-tail-ne0-via-then-tail-ne0 w ↦ w.if-tail-ne0.true t.0
      | then-tail-ne0-via-else-tail-ne0+then-tail-ne0-2 w ↦ w.if-tail-ne0-2.true t.1
      | then-tail-ne0-via-else-tail-ne0+else-tail-ne0-2+then-tail-ne0-3 w ↦ w.if-tail-ne0-3.true t.2
      | then-tail-ne0-via-else-tail-ne0+else-tail-ne0-2+else-tail-ne0-3+then-tail-ne0-4 w ↦
          w.if-tail-ne0-4.true (ap (cast_unsigned w16) t.3)
    ] in (
      1,
      refl,
      tail long (
        c.args.dst,
        cast_unsigned w32 c.args.first.imm,
        c.requires.wide.0,
        c.requires.wide.1 ∙ c.requires.first,
      )
          (subst (λ (i : Insn). IsTailSlot i → ⊥) is here),
    )

pub returns : goal.returns
returns c =
    let long : 16 ≤ length c.args.rest.now =
    omega (arith, c.requires.long, c.requires.slots, c.if-rest-eq8.false) in
    let is : c.from_bytes-tail.result ≡ fields (drop 8 c.args.rest.now) = c.from_bytes-tail.ensures
    ∙ ap fields (take_rest c.args.rest.now 8) in
    let fits : FitsSigned w32 c.args.first.imm = search rules in
    let fits' : FitsSigned w32 c.from_bytes-tail.result.imm = search rules in
    let off_fits : FitsSigned w16 c.from_bytes-tail.result.off = search rules in
    let zero_offset : c.from_bytes-tail.result.off ≡ pos 0 =
    sym (zero16 c.from_bytes-tail.result.off off_fits c.if-tail-ne0-4.false) in
    let made = wide_begins c.args.rest.now c.args.dst c.args.first c.from_bytes-tail.result long
    (λ i. omega (arith, c.type_inv.rest i)) c.requires.wide.0
    fits fits' c.requires.first is c.requires.wide.1 (
      c.if-tail-ne0.false,
      c.if-tail-ne0-2.false,
      c.if-tail-ne0-3.false,
      zero_offset,
    ) in
    let high : c.cast_unsigned-high.result ≡ cast_unsigned w32 c.from_bytes-tail.result.imm =
    c.cast_unsigned-high.ensures ∙ ap (cast_unsigned w32)
    (to_z-of_z w32 c.from_bytes-tail.result.imm fits') in
    let low : c.cast_unsigned-low.result ≡ cast_unsigned w32 c.args.first.imm =
    c.cast_unsigned-low.ensures ∙ ap (cast_unsigned w32) (to_z-of_z w32 c.args.first.imm fits)
    in
    subst (λ (x : ℕ). Begins c.args.rest.now
    (Wide c.args.dst (x * 2 ^ 32 + c.cast_unsigned-low.result))) (sym high)
    (subst (λ (x : ℕ). Begins c.args.rest.now
    (Wide c.args.dst (cast_unsigned w32 c.from_bytes-tail.result.imm * 2 ^ 32 + x))) (sym low)
    made)
