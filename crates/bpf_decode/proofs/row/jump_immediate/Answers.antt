use Rattle.std.proofs.Common.{refl, arith, sym}
use Rattle.std.proofs.lemmas.Result.{err_from_is_err_and}
use Rattle.bpf_decode.specs.declared.op.Op.TheVariants as op
use Rattle.bpf_decode.specs.declared.op.Operand.TheVariants.{Immediate}
use Rattle.bpf_decode.specs.declared.form.Form.TheVariants as form
use Rattle.bpf_decode.specs.declared.form.OperandSource.TheVariants as source
use Rattle.bpf_decode.proofs.RowLemmas.{field_fault, register_fault}
use Rattle.bpf_decode.proofs.row.jump_immediate.Goals as goal

pub returns-then-insn-ne0 : goal.returns-then-insn-ne0
returns-then-insn-ne0 c =
    field_fault (form.Jump c.args.width c.args.condition source.Immediate) c.args.insn c.requires
    (λ a. c.if-insn-ne0.true a)

pub returns-in_err-dst : goal.returns-in_err-dst
returns-in_err-dst c =
    let p = err_from_is_err_and c.from_residual.result c.from_residual.ensures.1 in
    rw (p.1, p.2, c.in_err-dst.ensures.0)
    (register_fault (op.Jump c.args.width c.args.condition c.args.insn.dst
    (Immediate c.args.insn.imm) c.args.insn.off)
    (form.Jump c.args.width c.args.condition source.Immediate) c.args.insn tt (omega arith)
    c.requires refl (sym c.if-insn-ne0.false) refl refl
    (λ h. omega (arith, c.in_err-dst.ensures.1)))
