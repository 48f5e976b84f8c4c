use Rattle.std.proofs.Common.{◌≡◌, ◌||◌, ap, sym, ◌∙◌}
use Rattle.acdm_slots.specs.Loaded.{program_in}
use Rattle.acdm_slots.specs.declared.kind.Kind.TheVariants.{Tobt, Alert}
use Rattle.acdm_step.specs.Facts.{ReportFacts}
use Rattle.acdm_step.specs.InSlots as slots_in
use Rattle.acdm_step.specs.InSlots.{slots_of, may_ask, asks_in}
use Rattle.acdm_step.specs.History.{Board}
use Rattle.acdm_step.proofs.Replay.{may_ask-replay}
use Rattle.acdm_step.proofs.state.Core.asks.Goals as goal

pub returns-in-Report : goal.returns-in-Report
returns-in-Report c sigs J eq =
    let m = c.report.inside.milestone in
    let is : c.self.inside.slots ≡ slots_of sigs J =
    ap (λ (b : Board). b.slots) (c.self.view_is ∙ eq) in
    c.either_asks.ensures
    ∙ ap (λ l. may_ask (program_in l m Tobt) || may_ask (program_in l m Alert)) is
    ∙ ap (λ b. b || may_ask (program_in (slots_of sigs J) m Alert)) (may_ask-replay sigs J m Tobt)
    ∙ ap (λ b. may_ask (slots_in.program_in J m Tobt) || b) (may_ask-replay sigs J m Alert)
    ∙ sym (ap (asks_in J) c.in-Report.is
    ∙ ap (λ (r : ReportFacts). may_ask (slots_in.program_in J r.milestone Tobt)
    || may_ask (slots_in.program_in J r.milestone Alert)) (sym c.report.view_is))
