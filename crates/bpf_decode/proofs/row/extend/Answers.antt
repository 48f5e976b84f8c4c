use Rattle.std.proofs.Common.{refl, sym, rules}
use Rattle.std.specs.Int.{w16}
use Rattle.std.specs.Int.RustNames.{FitsSigned}
use Rattle.std.proofs.lemmas.Int.{to_z-of_z}
use Rattle.std.proofs.lemmas.Result.{err_from_is_err_and}
use Rattle.bpf_decode.specs.declared.op.Op.TheVariants as op
use Rattle.bpf_decode.specs.declared.op.Code.TheVariants.{Mov}
use Rattle.bpf_decode.specs.declared.form.Form.TheVariants as form
use Rattle.bpf_decode.specs.declared.form.OperandSource.TheVariants as source
use Rattle.bpf_decode.proofs.RowLemmas.{field_fault, register_fault, extends_at, extension_allowed}
use Rattle.bpf_decode.proofs.row.extend.Goals as goal

pub returns-in_default : goal.returns-in_default
returns-in_default c =
    let fits : FitsSigned w16 c.args.insn.off = search rules in
    let none = rw (to_z-of_z w16 c.args.insn.off fits) at c.in_default.ensures in
    field_fault (form.Arith c.args.width Mov source.Register) c.args.insn c.requires.opcode
    (λ a. extension_allowed c.args.width c.args.insn a c.requires.offset none)

pub returns-in_err-dst : goal.returns-in_err-dst
returns-in_err-dst c =
    let p = err_from_is_err_and c.from_residual.result c.from_residual.ensures.1 in
    let fits : FitsSigned w16 c.args.insn.off = search rules in
    rw (p.1, p.2, c.in_err-dst.ensures.0)
    (register_fault (op.Extend c.args.width c.in-Some.part c.args.insn.dst c.args.insn.src)
    (form.Arith c.args.width Mov source.Register)
    c.args.insn (extends_at c.args.width c.in-Some.part c.args.insn.dst c.args.insn.src
    c.in-Some.ensures.0) refl c.requires.opcode refl refl
    (rw (to_z-of_z w16 c.args.insn.off fits) at c.in-Some.ensures.1) (sym c.requires.immediate)
    c.in_err-dst.ensures.1)
