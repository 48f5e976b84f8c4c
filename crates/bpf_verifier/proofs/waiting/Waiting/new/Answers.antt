use Rattle.std.proofs.Common.{◌≡◌, ◌-◌, ◌∙◌, arith}
use Rattle.bpf_regstate.specs.Lengths.{bytes_in}
use Rattle.bpf_regstate.specs.States.{start_shape}
use Rattle.bpf_verifier.proofs.WaitingLemmas.{first_waits}
use Rattle.bpf_verifier.proofs.waiting.Waiting.new.Goals as goal

pub returns : goal.returns
returns c =
    let more : c.loop.counter ≡ c.args.slots - 1 = omega
    (arith, c.loop-test.false, c.loop.auto.counter-end) in
    first_waits c.loop.rows.items c.push.new.self.items c.in_ok-rows.rows.items c.in_ok-new.field-0
    (start_shape (bytes_in c.args.record_length)) (c.args.slots - 1) c.loop.counter
    c.loop.invariant more c.in_ok-push.ensures.items c.in_ok-rows.ensures.items
    (c.in_ok-new.ensures.ok ∙ c.start.ensures)
