use Rattle.std.proofs.Common.{ap}
use Rattle.std.specs.Int.{cast_unsigned, w16, w32}
use Rattle.bpf_decode.specs.declared.form.Form.TheVariants as form
use Rattle.bpf_decode.proofs.RowLemmas.{field_fault}
use Rattle.bpf_decode.proofs.row.exit.Goals as goal
use Rattle.bpf_decode.proofs.row.exit.Goals.{then-insn-ne0-via-then-insn-ne0}
use Rattle.bpf_decode.proofs.row.exit.Goals.{then-insn-ne0-via-else-insn-ne0+then-insn-ne0-2}
use Rattle.bpf_decode.proofs.row.exit.Goals.{then-insn-ne0-via-else-insn-ne0+else-insn-ne0-2+then-insn-ne0-3}
use Rattle.bpf_decode.proofs.row.exit.Goals.{then-insn-ne0-via-else-insn-ne0+else-insn-ne0-2+else-insn-ne0-3+then-insn-ne0-4}

pub returns-then-insn-ne0 : goal.returns-then-insn-ne0
returns-then-insn-ne0 c =
    field_fault form.Exit c.args.insn c.requires (λ a. elim c.then-insn-ne0.branch [
      | then-insn-ne0-via-then-insn-ne0 w ↦ w.if-insn-ne0.true a.0
      | then-insn-ne0-via-else-insn-ne0+then-insn-ne0-2 w ↦ w.if-insn-ne0-2.true a.1
      | then-insn-ne0-via-else-insn-ne0+else-insn-ne0-2+then-insn-ne0-3 w ↦
          w.if-insn-ne0-3.true (ap (cast_unsigned w16) a.2)
      | then-insn-ne0-via-else-insn-ne0+else-insn-ne0-2+else-insn-ne0-3+then-insn-ne0-4 w ↦
          w.if-insn-ne0-4.true (ap (cast_unsigned w32) a.3)
    ])
