use Rattle.std.proofs.Common.{rules}
use Rattle.acdm_judging.proofs.Listing.{one_line}
use Rattle.acdm_judging.proofs.verifying.list_slots.Goals as goal

pub loop-slot-preserved : goal.loop-slot-preserved
loop-slot-preserved c = record {
  lines = one_line c.args.program.now c.loop-slot.slot c.loop-slot.text.items
      c.line.new.writer.items c.push.new.self.items _ (search rules) c.in_ok-line.ensures
      (search rules) c.loop-slot.invariant.lines;
  below = search rules;
}
