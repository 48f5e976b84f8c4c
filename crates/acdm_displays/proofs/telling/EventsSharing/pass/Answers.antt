use Rattle.std.proofs.Common.{◌∙◌}
use Rattle.acdm_displays.proofs.Written.{all_events, on_ok}
use Rattle.acdm_displays.proofs.telling.EventsSharing.pass.Goals as goal

pub returns-clause-passed : goal.returns-clause-passed
returns-clause-passed c = on_ok c.pass_all.result (λ knows count told.
    all_events c.args.self.now.room count c.pass_all.new.watch.seen c.pass_all.new.known
    (told.3.room_is ∙ told.2) (knows told.3.knows)) c.pass_all.ensures.knows
