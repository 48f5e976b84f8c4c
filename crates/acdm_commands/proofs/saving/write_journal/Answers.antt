use Rattle.std.proofs.Common.{rules, arith}
use Rattle.acdm_commands.proofs.Saved.{saves_more}
use Rattle.acdm_commands.proofs.saving.write_journal.Goals as goal

pub loop-number-preserved : goal.loop-number-preserved
loop-number-preserved g c = record {
  same = search rules;
  wrote = saves_more c.args.desk.now.history c.loop-number.number c.in-Some.entry.now _ _ _
      (search rules) c.loop-number.invariant.wrote c.in_ok-write_entry_by.ensures.written
      c.in_ok-write_entry_by.ensures.types;
  below = search rules;
  faults = omega arith;
}
