use Rattle.std.proofs.Common.{[], refl}
use Rattle.acdm_displays.proofs.Written.{all_events}
use Rattle.acdm_displays.proofs.telling.EventsSharing.new.Goals as goal

pub returns : goal.returns
returns c = all_events c.args.room c.args.room [] c.new.result refl c.new.ensures
