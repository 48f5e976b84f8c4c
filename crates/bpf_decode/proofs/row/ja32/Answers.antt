use Rattle.std.proofs.Common.{ap}
use Rattle.std.specs.Int.{cast_unsigned, w16}
use Rattle.bpf_decode.specs.declared.form.Form.TheVariants as form
use Rattle.bpf_decode.proofs.RowLemmas.{field_fault}
use Rattle.bpf_decode.proofs.row.ja32.Goals as goal
use Rattle.bpf_decode.proofs.row.ja32.Goals.{then-insn-ne0-via-then-insn-ne0}
use Rattle.bpf_decode.proofs.row.ja32.Goals.{then-insn-ne0-via-else-insn-ne0+then-insn-ne0-2}
use Rattle.bpf_decode.proofs.row.ja32.Goals.{then-insn-ne0-via-else-insn-ne0+else-insn-ne0-2+then-insn-ne0-3}

pub returns-then-insn-ne0 : goal.returns-then-insn-ne0
returns-then-insn-ne0 c =
    field_fault form.Ja32 c.args.insn c.requires (λ a. elim c.then-insn-ne0.branch [
      | then-insn-ne0-via-then-insn-ne0 w ↦ w.if-insn-ne0.true a.0
      | then-insn-ne0-via-else-insn-ne0+then-insn-ne0-2 w ↦ w.if-insn-ne0-2.true a.1
      | then-insn-ne0-via-else-insn-ne0+else-insn-ne0-2+then-insn-ne0-3 w ↦
          w.if-insn-ne0-3.true (ap (cast_unsigned w16) a.2)
    ])
