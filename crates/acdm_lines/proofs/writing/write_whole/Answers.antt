use Rattle.std.proofs.Common.{ℕ, List, arith, length-drop}
use Rattle.std.proofs.lemmas.List.{take_rest}
use Rattle.acdm_lines.proofs.Further.{log-further}
use Rattle.acdm_lines.proofs.writing.write_whole.Goals as goal

pub loop-at-smaller-then-taken-gt0 : goal.loop-at-smaller-then-taken-gt0
loop-at-smaller-then-taken-gt0 g c =
    let bytes : List ℕ = c.args.bytes.now in
    let bound = rw (take_rest bytes c.loop-at.at) at c.in-Ok.ensures.bound in
    omega (arith, length-drop c.loop-at.at bytes)

pub loop-at-preserved-then-taken-gt0 : goal.loop-at-preserved-then-taken-gt0
loop-at-preserved-then-taken-gt0 g c =
    let bytes : List ℕ = c.args.bytes.now in
    let bound = rw (take_rest bytes c.loop-at.at) at c.in-Ok.ensures.bound in
    record {
      inside = omega (arith, length-drop c.loop-at.at bytes);
      log = log-further _ _ _ bytes c.loop-at.at c.in-Ok.taken c.loop-at.invariant.log
          (rw (take_rest bytes c.loop-at.at) at c.in-Ok.ensures.bytes);
      faults = grind arith;
    }
