use Rattle.std.proofs.Common.{◌≡◌, length, reverse, take, sym, ap, subst, ◌∙◌, arith}
use Rattle.std.specs.List.{All}
use Rattle.acdm_board.specs.Desk.{DeskView}
use Rattle.acdm_sessions.specs.Passes.{IsShown}
use Rattle.acdm_sessions.proofs.sessions.close.Goals as goal

pub hold-requires-clause-shorter : goal.hold-requires-clause-shorter
hold-requires-clause-shorter g c =
    omega (
      arith,
      ap (λ (d : DeskView). length d.history) c.gathered-sessions.ensures.desk,
      c.args.locked.counted,
      c.audit.ensures.whole (c.gathered-sessions.ensures.parts ∙ c.requires.parts),
      c.gathered-sessions.ensures.amount,
      c.requires.first.1,
    )

pub returns-clause-sum : goal.returns-clause-sum
returns-clause-sum g c =
    ap (λ (d : DeskView). length d.history)
    (c.hold.ensures.same ∙ c.gathered-sessions.ensures.desk)
    ∙ c.args.locked.counted
    ∙ sym (c.audit.ensures.whole (c.gathered-sessions.ensures.parts ∙ c.requires.parts))
    ∙ c.gathered-sessions.ensures.amount

pub returns-clause-begins : goal.returns-clause-begins
returns-clause-begins g c =
    subst (λ (d : DeskView). c.args.first.seen
    ≡ take (length c.args.first.seen) (reverse d.history)) (sym c.hold.ensures.same)
    c.hold.ensures.begins

pub returns-clause-shown : goal.returns-clause-shown
returns-clause-shown g c =
    subst (λ (d : DeskView). All (λ e. IsShown g.J.Naming.start d e.number e.role e.calls e.torn
    e.pass) c.gathered-sessions.result.items)
    (sym (c.hold.ensures.same ∙ c.gathered-sessions.ensures.desk))
    c.gathered-sessions.ensures.shown
