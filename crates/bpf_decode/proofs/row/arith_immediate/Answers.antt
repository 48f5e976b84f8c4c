use Rattle.std.proofs.Common.{refl, sym, arith, rules}
use Rattle.std.specs.Int.{w16}
use Rattle.std.specs.Int.RustNames.{FitsSigned}
use Rattle.std.proofs.lemmas.Int.{to_z-of_z}
use Rattle.std.proofs.lemmas.Result.{err_from_is_err_and}
use Rattle.bpf_decode.specs.declared.op.Op.TheVariants as op
use Rattle.bpf_decode.specs.declared.op.Operand.TheVariants.{Immediate}
use Rattle.bpf_decode.specs.declared.form.Form.TheVariants as form
use Rattle.bpf_decode.specs.declared.form.OperandSource.TheVariants as source
use Rattle.bpf_decode.proofs.RowLemmas.{field_fault, register_fault}
use Rattle.bpf_decode.proofs.row.arith_immediate.Goals as goal

pub returns-in_default : goal.returns-in_default
returns-in_default c =
    let fits : FitsSigned w16 c.args.insn.off = search rules in
    let none = rw (to_z-of_z w16 c.args.insn.off fits) at c.in_default.ensures in
    field_fault (form.Arith c.args.width c.args.code source.Immediate) c.args.insn c.requires
    (λ a. none a.1.0 a.1.1 a.1.2)

pub returns-then-insn-ne0 : goal.returns-then-insn-ne0
returns-then-insn-ne0 c =
    field_fault (form.Arith c.args.width c.args.code source.Immediate) c.args.insn c.requires
    (λ a. c.if-insn-ne0.true a.0)

pub returns-in_err-dst : goal.returns-in_err-dst
returns-in_err-dst c =
    let p = err_from_is_err_and c.from_residual.result c.from_residual.ensures.1 in
    let fits : FitsSigned w16 c.args.insn.off = search rules in
    rw (p.1, p.2, c.in_err-dst.ensures.0)
    (register_fault (op.Arith c.args.width c.in-Some.code c.args.insn.dst
    (Immediate c.args.insn.imm)) (form.Arith c.args.width c.args.code source.Immediate)
    c.args.insn tt (omega (arith, c.in-Some.ensures.0)) c.requires refl (sym c.if-insn-ne0.false)
    (rw (to_z-of_z w16 c.args.insn.off fits) at c.in-Some.ensures.1) refl
    (λ h. omega (arith, c.in_err-dst.ensures.1)))
