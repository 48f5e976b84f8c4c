use Rattle.std.proofs.Common.{refl, ap, ◌∙◌, arith, rules, inl, inr}
use Rattle.std.specs.Int.{cast_unsigned, w16, w32}
use Rattle.std.specs.Int.RustNames.{FitsSigned}
use Rattle.std.proofs.lemmas.Int.{to_z-of_z}
use Rattle.std.proofs.lemmas.Result.{err_from_is_err_and}
use denote.Enum.Bare.{sameb}
use Rattle.bpf_decode.specs.contracts.op.Code.{the_type}
use Rattle.bpf_decode.specs.declared.op.Op.TheVariants as op
use Rattle.bpf_decode.specs.declared.op.Operand.TheVariants.{From}
use Rattle.bpf_decode.specs.declared.op.Code.{Code}
use Rattle.bpf_decode.specs.declared.op.Code.TheVariants.{Mov}
use Rattle.bpf_decode.specs.declared.form.Form.TheVariants as form
use Rattle.bpf_decode.specs.declared.form.OperandSource.TheVariants as source
use Rattle.bpf_decode.proofs.RowLemmas.{field_fault, register_fault, zero32, part_not_none}
use Rattle.bpf_decode.proofs.RowLemmas.{not_true}
use Rattle.bpf_decode.proofs.row.arith_register.Goals as goal

pub returns-then-insn-ne0 : goal.returns-then-insn-ne0
returns-then-insn-ne0 c =
    field_fault (form.Arith c.args.width c.args.code source.Register) c.args.insn c.requires
    (λ a. c.if-insn-ne0.true (ap (cast_unsigned w32) a.0))

pub returns-in_default : goal.returns-in_default
returns-in_default c =
    let fits : FitsSigned w16 c.args.insn.off = search rules in
    let none = rw (to_z-of_z w16 c.args.insn.off fits) at c.in_default.ensures in
    field_fault (form.Arith c.args.width c.args.code source.Register) c.args.insn c.requires
    (λ a. elim a.1 [
      | inl s ↦ none s.0 s.1 s.2
      | inr e ↦ elim c.else-eq.either [
        | inl zero_offset ↦ part_not_none e.0 c.args.insn.off e.3 zero_offset.1
        | inr other ↦ not_true c.eq.result other (c.eq.ensures
            ∙ ap (λ (x : Code). sameb the_type x Mov) e.1)
      ]
    ])

pub returns-in_err-dst : goal.returns-in_err-dst
returns-in_err-dst c =
    let p = err_from_is_err_and c.from_residual.result c.from_residual.ensures.1 in
    let fits16 : FitsSigned w16 c.args.insn.off = search rules in
    let fits32 : FitsSigned w32 c.args.insn.imm = search rules in
    rw (p.1, p.2, c.in_err-dst.ensures.0)
    (register_fault (op.Arith c.args.width c.in-Some.code c.args.insn.dst (From c.args.insn.src))
    (form.Arith c.args.width c.args.code source.Register)
    c.args.insn tt (omega (arith, c.in-Some.ensures.0)) c.requires refl refl
    (rw (to_z-of_z w16 c.args.insn.off fits16) at c.in-Some.ensures.1)
    (zero32 c.args.insn.imm fits32 c.if-insn-ne0.false) c.in_err-dst.ensures.1)
