use Rattle.std.proofs.Common.{◌∙◌, refl, arith}
use Rattle.bpf_helpers.proofs.OracleLemmas.{same_again, same_rule}
use Rattle.bpf_run.proofs.Running.{begins, went}
use Rattle.bpf_machine.proofs.tested.run_slots.Goals as goal

pub loop-r0-init : goal.loop-r0-init
loop-r0-init g c =
    let run = begins c.args.ops.now c.args.sigs.now c.args.record_bytes.now c.args.moment
    c.args.milestone (g.O.Oracle.view c.args.oracle.now).log c.requires.some in
    record { run = rw c.start-state.ensures run; counts = refl; same_rule = same_rule _ }

pub loop-r0-smaller : goal.loop-r0-smaller
loop-r0-smaller g c =
    let on = went c.args.ops.now c.args.sigs.now c.args.record_bytes.now c.args.moment
    c.args.milestone (g.O.Oracle.view c.args.oracle.now).log _ _ _ _ _ _ c.loop-r0.invariant.run
    refl c.in-Went.ensures.told in
    omega (arith, on.0, c.loop-r0.invariant.run.place)

pub loop-r0-preserved : goal.loop-r0-preserved
loop-r0-preserved g c =
    let on = went c.args.ops.now c.args.sigs.now c.args.record_bytes.now c.args.moment
    c.args.milestone (g.O.Oracle.view c.args.oracle.now).log _ _ _ _ _ _ c.loop-r0.invariant.run
    refl c.in-Went.ensures.told in
    record {
      run = on.1;
      counts = c.in-Went.ensures.counted ∙ c.loop-r0.invariant.counts;
      same_rule = same_again _ _ _ c.loop-r0.invariant.same_rule c.in-Went.ensures.same_rule;
    }
