use Rattle.std.proofs.Common.{◌≡◌, sym, ap, subst, ◌∙◌}
use Rattle.acdm_step.specs.declared.command.Command.{Command}
use Rattle.acdm_step.specs.declared.outcome.Outcome.TheVariants as outcomes
use Rattle.acdm_step.specs.History.{Board}
use Rattle.acdm_step.specs.Board.{board_answer, record_on}
use Rattle.acdm_step.proofs.state.Core.answer.Goals as goal

pub returns-in-Show-clause-value : goal.returns-in-Show-clause-value
returns-in-Show-clause-value c =
    let b : Board = record { records = c.self.inside.flights; slots = c.self.inside.slots } in
    let shown = outcomes.Shown c.record_at-record.result in
    subst (λ (x : Board). shown ≡ board_answer x c.args.command.now) c.self.view_is
    (subst (λ (x : Command). shown ≡ board_answer b x) (sym c.in-Show.is)
    (ap outcomes.Shown (c.record_at-record.ensures ∙ ap (record_on b) c.get-flight.ensures.value)))
