use Rattle.std.proofs.Common.{◌≡◌, ℕ, List, ◌∙◌, arith, length-drop}
use Rattle.std.proofs.lemmas.List.{take_rest}
use Rattle.acdm_wire.proofs.Writing.{log-further}
use Rattle.acdm_wire.proofs.reply.write_whole.Goals as goal

pub loop-at-preserved : goal.loop-at-preserved
loop-at-preserved g c =
    let bytes : List ℕ = c.args.bytes.now in
    let bound = rw (take_rest bytes c.loop-at.at) at c.in-Ok.ensures.bound in
    let before : c.loop-at.writer.faults ≡ c.args.writer.now.faults =
    c.loop-at.invariant.wrote.well in
    record {
      inside = omega (arith, length-drop c.loop-at.at bytes);
      wrote = record {
        wrote = log-further _ _ _ bytes c.loop-at.at c.in-Ok.taken
            c.loop-at.invariant.wrote.wrote
            (rw (take_rest bytes c.loop-at.at) at c.in-Ok.ensures.bytes);
        same = c.in-Ok.ensures.first ∙ c.loop-at.invariant.wrote.same;
        told = c.in-Ok.ensures.told ∙ c.loop-at.invariant.wrote.told;
        well = grind arith;
      };
    }
