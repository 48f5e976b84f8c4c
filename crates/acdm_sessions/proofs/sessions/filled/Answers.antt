use Rattle.std.proofs.Common.{◌∙◌, sym, ap, arith}
use Rattle.std.specs.Vec.Iter.{into_iter_items}
use Rattle.acdm_sessions.proofs.Seats.{all_taken_as, longer_by_one, taken_as}
use denote.Exit.{no}
use denote.Param.Send.{param_send, arg_send}
use Rattle.acdm_sessions.proofs.Crossing.{served_send, work_send}
use Rattle.acdm_sessions.proofs.sessions.filled.Goals as goal

pub add-requires-send-B : goal.add-requires-send-B
add-requires-send-B g c κs within = let k = c.type_bounds in
    param_send 0 _ (arg_send _ no _ (work_send _ _ _ _ _ _ _ _ _ _ _ _ _ _ k.send-R k.send-W k.send-C
    k.send-H k.sync-G k.sync-Rt))

pub add-requires-send-T : goal.add-requires-send-T
add-requires-send-T g c κs within = let k = c.type_bounds in
    param_send 1 _ (arg_send _ no _ (served_send _ _ _ _ _ _ _ _ _ k.send-R k.send-W k.send-C))

pub loop-seat-preserved : goal.loop-seat-preserved
loop-seat-preserved g c =
    let added = ap (λ k. k.jobs) c.add.ensures in (
      (
        omega (
          arith,
          c.in-Some.ensures.steps.1,
          c.loop-seat.invariant.0.0,
          longer_by_one c.loop-seat.crew.jobs c.add.new.self.jobs _ added,
        ),
        rw c.add.ensures c.loop-seat.invariant.0.1,
      ),
      taken_as (λ work. work.seat) c.loop-seat.crew.jobs c.add.new.self.jobs _
          (into_iter_items c.loop-seat.seat-iterator) (into_iter_items c.next.new.self)
          c.args.seats.items added c.in-Some.ensures.steps.0 c.loop-seat.invariant.1,
    )

pub returns-clause-seats : goal.returns-clause-seats
returns-clause-seats g c =
    let it = c.loop-seat.seat-iterator in
    all_taken_as (λ work. work.seat) c.loop-seat.crew.jobs it.rest.items c.args.seats.items
    (sym it.rest.ok.0 ∙ c.in-None.ensures.steps.0) c.loop-seat.invariant.1
