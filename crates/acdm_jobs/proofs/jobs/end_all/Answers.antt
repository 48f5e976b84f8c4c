use Rattle.std.proofs.Common.{arith}
use Rattle.std.proofs.lemmas.Grind.{common_steps}
use Rattle.std.specs.Vec.Iter.{into_iter_items}
use Rattle.acdm_jobs.proofs.Each.{each_next}
use Rattle.acdm_jobs.proofs.jobs.end_all.Goals as goal

pub loop-one-preserved : goal.loop-one-preserved
loop-one-preserved g c =
    let h = c.loop-one.invariant.1 in (
      grind (arith, common_steps),
      each_next g.B.Job.gives h.0 (into_iter_items c.loop-one.one-iterator)
          (into_iter_items c.next.new.self) c.args.begun.items c.loop-one.done.items
          c.push_reserved.new.self.items c.in-Some.one c.ended.result h.1
          c.in-Some.ensures.steps.0 c.push_reserved.ensures.items h.2 c.ended.ensures,
    )
