use Rattle.std.proofs.Common.{refl, arith, rules, ap}
use Rattle.std.specs.Int.{cast_unsigned, w32}
use Rattle.std.specs.Int.RustNames.{FitsSigned}
use Rattle.std.proofs.lemmas.Result.{err_from_is_err_and}
use Rattle.bpf_decode.specs.declared.op.Op.TheVariants as op
use Rattle.bpf_decode.specs.declared.op.Operand.TheVariants.{From}
use Rattle.bpf_decode.specs.declared.form.Form.TheVariants as form
use Rattle.bpf_decode.specs.declared.form.OperandSource.TheVariants as source
use Rattle.bpf_decode.proofs.RowLemmas.{field_fault, register_fault, zero32}
use Rattle.bpf_decode.proofs.row.jump_register.Goals as goal

pub returns-then-insn-ne0 : goal.returns-then-insn-ne0
returns-then-insn-ne0 c =
    field_fault (form.Jump c.args.width c.args.condition source.Register) c.args.insn c.requires
    (λ a. c.if-insn-ne0.true (ap (cast_unsigned w32) a))

pub returns-in_err-dst : goal.returns-in_err-dst
returns-in_err-dst c =
    let p = err_from_is_err_and c.from_residual.result c.from_residual.ensures.1 in
    let fits32 : FitsSigned w32 c.args.insn.imm = search rules in
    rw (p.1, p.2, c.in_err-dst.ensures.0)
    (register_fault (op.Jump c.args.width c.args.condition c.args.insn.dst (From c.args.insn.src)
    c.args.insn.off) (form.Jump c.args.width c.args.condition source.Register) c.args.insn tt
    (omega arith) c.requires refl refl refl (zero32 c.args.insn.imm fits32 c.if-insn-ne0.false)
    c.in_err-dst.ensures.1)
