use Rattle.std.proofs.Common.{refl, arith, rules, sym, ap}
use Rattle.std.specs.Int.{cast_unsigned, w16, w32}
use Rattle.std.specs.Int.RustNames.{FitsSigned}
use Rattle.std.proofs.lemmas.Result.{err_from_is_err_and}
use Rattle.bpf_decode.specs.declared.op.Op.TheVariants as op
use Rattle.bpf_decode.specs.declared.form.Form.TheVariants as form
use Rattle.bpf_decode.proofs.RowLemmas.{field_fault, register_fault, zero16, zero32}
use Rattle.bpf_decode.proofs.row.negate.Goals as goal
use Rattle.bpf_decode.proofs.row.negate.Goals.{then-insn-ne0-via-then-insn-ne0}
use Rattle.bpf_decode.proofs.row.negate.Goals.{then-insn-ne0-via-else-insn-ne0+then-insn-ne0-2}
use Rattle.bpf_decode.proofs.row.negate.Goals.{then-insn-ne0-via-else-insn-ne0+else-insn-ne0-2+then-insn-ne0-3}

pub returns-then-insn-ne0 : goal.returns-then-insn-ne0
returns-then-insn-ne0 c =
    field_fault (form.Negate c.args.width) c.args.insn c.requires
    (λ a. elim c.then-insn-ne0.branch [
      | then-insn-ne0-via-then-insn-ne0 w ↦ w.if-insn-ne0.true a.0
      | then-insn-ne0-via-else-insn-ne0+then-insn-ne0-2 w ↦
          w.if-insn-ne0-2.true (ap (cast_unsigned w16) a.1)
      | then-insn-ne0-via-else-insn-ne0+else-insn-ne0-2+then-insn-ne0-3 w ↦
          w.if-insn-ne0-3.true (ap (cast_unsigned w32) a.2)
    ])

pub returns-in_err-dst : goal.returns-in_err-dst
returns-in_err-dst c =
    let p = err_from_is_err_and c.from_residual.result c.from_residual.ensures.1 in
    let fits16 : FitsSigned w16 c.args.insn.off = search rules in
    let fits32 : FitsSigned w32 c.args.insn.imm = search rules in
    rw (p.1, p.2, c.in_err-dst.ensures.0)
    (register_fault (op.Negate c.args.width c.args.insn.dst) (form.Negate c.args.width) c.args.insn
    tt refl c.requires refl (sym c.if-insn-ne0.false)
    (zero16 c.args.insn.off fits16 c.if-insn-ne0-2.false)
    (zero32 c.args.insn.imm fits32 c.if-insn-ne0-3.false)
    (λ h. omega (arith, c.in_err-dst.ensures.1)))
