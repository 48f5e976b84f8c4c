use Rattle.std.proofs.Common.{◌≡◌, ◌+◌, ap, sym, ◌∙◌}
use Rattle.acdm_slots.specs.Loaded.{program_in}
use Rattle.acdm_slots.specs.declared.kind.Kind.TheVariants.{Tobt, Alert}
use Rattle.acdm_step.specs.Facts.{ReportFacts}
use Rattle.acdm_step.specs.InSlots as slots_in
use Rattle.acdm_step.specs.InSlots.{slots_of, size_of, room_of}
use Rattle.acdm_step.specs.History.{Board}
use Rattle.acdm_step.proofs.Replay.{room-replay}
use Rattle.acdm_step.proofs.state.Core.room.Goals as goal

pub returns-in-Report : goal.returns-in-Report
returns-in-Report c sigs J eq =
    let m = c.report.inside.milestone in
    let is : c.self.inside.slots ≡ slots_of sigs J =
    ap (λ (b : Board). b.slots) (c.self.view_is ∙ eq) in
    ap (λ n. n + c.size_in-in-Report.result) (c.size_in.ensures.value
    ∙ ap (λ l. size_of (program_in l m Tobt)) is ∙ room-replay sigs J m Tobt)
    ∙ ap (λ n. size_of (slots_in.program_in J m Tobt) + n) (c.size_in-in-Report.ensures.value
    ∙ ap (λ l. size_of (program_in l m Alert)) is ∙ room-replay sigs J m Alert)
    ∙ sym (ap (room_of J) c.in-Report.is
    ∙ ap (λ (r : ReportFacts). size_of (slots_in.program_in J r.milestone Tobt)
    + size_of (slots_in.program_in J r.milestone Alert)) (sym c.report.view_is))
