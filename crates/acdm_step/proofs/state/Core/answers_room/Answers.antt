use Rattle.std.proofs.Common.{cond, ap, sym, ◌∙◌}
use Rattle.acdm_step.specs.InSlots.{room_of}
use Rattle.acdm_step.proofs.state.Core.answers_room.Goals as goal

pub returns-then-asks : goal.returns-then-asks
returns-then-asks c sigs J eq =
    c.room.ensures sigs J eq
    ∙ sym (ap (λ b. cond b (room_of J c.args.command.now) 0)
    (sym (c.asks.ensures sigs J eq) ∙ c.if-asks.true))

pub returns-else-asks : goal.returns-else-asks
returns-else-asks c sigs J eq =
    sym (ap (λ b. cond b (room_of J c.args.command.now) 0)
    (sym (c.asks.ensures sigs J eq) ∙ c.if-asks.false))
