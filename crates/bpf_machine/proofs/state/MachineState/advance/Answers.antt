use Rattle.std.proofs.Common.{rules, refl}
use Rattle.bpf_machine.proofs.Told.{action_at, no_refusal, tells}
use Rattle.bpf_machine.proofs.state.MachineState.advance.Goals as goal

pub returns-in-Call-clause-told : goal.returns-in-Call-clause-told
returns-in-Call-clause-told g c =
    let here = action_at c.args.ops.now c.args.sigs.now c.args.record_bytes.now c.args.self.now
    c.index-ops-self.result c.requires.place (search rules) in
    rw (here, c.in-Call.is) (c.call.ensures.told c.args.record_bytes.now)

pub returns-clause-told : goal.returns-clause-told
returns-clause-told g c =
    let here = action_at c.args.ops.now c.args.sigs.now c.args.record_bytes.now c.args.self.now
    c.index-ops-self.result c.requires.place (search rules) in
    rw here (tells c.step.result c.args.sigs.now c.args.self.now c.step.new.self _ _ _ refl
    (c.step.ensures c.args.sigs.now))

pub returns-clause-counted : goal.returns-clause-counted
returns-clause-counted g c =
    rw (no_refusal c.step.result c.step.new.self _ (c.step.ensures c.args.sigs.now)) refl
