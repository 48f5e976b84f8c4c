-- A call of the desk, as the pass sees it by which it was made.
use Rattle.std.proofs.Common.{◌≡◌, ℕ, List, ◌++◌, length, reverse, take, ap, ◌∙◌}
use Rattle.bpf_helpers.specs.Promise.{Promise}
use Rattle.acdm_step.specs.History.{after}
use Rattle.acdm_step.specs.Verdicts.{outcome_of, verdict_of}
use Rattle.acdm_row.specs.Views.{IsSameCaller, PassView}
use Rattle.acdm_board.specs.Desk.{DeskView, Enters, Extends}
use Rattle.acdm_board.specs.declared.desk.Reply.{Reply}
use Rattle.acdm_sessions.specs.Sessions.{Calls}
use Rattle.acdm_sessions.specs.declared.order.Order.{Order}

module _ (sigs : List (ℕ × Promise)) (desk later : DeskView) (o : Order) (old new : PassView)
    (reply : Reply) where
  pub calls : desk.sigs ≡ sigs
      → Enters desk old.session old.role o.moment o.command later reply.outcome
      → Extends desk later old new → IsSameCaller old new → reply.number ≡ length desk.history
      → Calls sigs o old new reply
  calls same entry pass caller number = record {
    before = desk.history;
    answers = entry.answers;
    begins = pass.begins;
    caller = caller;
    seen = pass.seen ∙ ap (λ (d : DeskView). reverse d.history) entry.entry
        ∙ ap (λ s. reverse (after desk.history old.session old.role o.moment o.command
        (verdict_of s desk.history old.role o.command) entry.answers)) same;
    numbers = pass.numbers;
    own = pass.own ∙ ap (λ (d : DeskView). old.own ++ take 1 d.history) entry.entry
        ∙ ap (λ s. old.own ++ take 1 (after desk.history old.session old.role o.moment o.command
        (verdict_of s desk.history old.role o.command) entry.answers)) same;
    number = number;
    outcome = entry.outcome_is ∙ ap (λ s. outcome_of s desk.history old.role o.command) same;
  }
