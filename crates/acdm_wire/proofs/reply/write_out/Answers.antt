use Rattle.std.proofs.Common.{length, true, refl, ap, ◌∙◌}
use Rattle.acdm_lines.specs.Counted.{faults_after}
use Rattle.acdm_wire.proofs.Writing.{log-whole}
use Rattle.acdm_wire.proofs.reply.write_out.Goals as goal

pub returns-in-Err-clause-writes : goal.returns-in-Err-clause-writes
returns-in-Err-clause-writes g c =
    let written = c.in_ok-write_whole.ensures in
    record {
      wrote = (
        length c.args.bytes.now,
        log-whole _ _ _ c.args.bytes.now written.wrote c.in-Err.ensures.bytes,
      );
      same = c.in-Err.ensures.first ∙ written.same;
      told = c.in-Err.ensures.told ∙ written.told;
      fault = c.in-Err.ensures.faults ∙ ap (faults_after true) written.well;
      kind = refl;
    }
