use Rattle.std.proofs.Common.{◌≡◌, [], ap, length, arith}
use Rattle.std.proofs.lemmas.Bool.{leb-true}
use Rattle.bpf_helpers.specs.Oracles.{Asking}
use Rattle.bpf_machine.proofs.Room.{counted_within}
use Rattle.bpf_machine.proofs.execution.execute.Goals as goal

pub unreachable-requires : goal.unreachable-requires
unreachable-requires g c =
    let few = c.in-Err.ensures.few_asked in
    let within = counted_within c.args.checked.now.ops in
    let full = leb-true _ _ c.in-Err.ensures.unanswered.5 in
    let log : c.in_ok-live.live.log ≡ [] = ap (λ (x : Asking). x.log) c.in_ok-live.ensures in
    let none : length c.in_ok-live.live.log ≡ 0 = ap length log in
    let room = ap (λ (x : Asking). x.room) c.in_ok-live.ensures in
    let slots : c.slot_count-room.result ≡ length c.args.checked.now.ops =
    rw c.program.ensures.value at c.slot_count-room.ensures in
    omega (arith, few, within, full, none, room, slots)
