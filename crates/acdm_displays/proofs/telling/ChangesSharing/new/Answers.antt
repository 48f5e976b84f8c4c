use Rattle.std.proofs.Common.{[], refl}
use Rattle.acdm_displays.proofs.Written.{all_feed}
use Rattle.acdm_displays.proofs.telling.ChangesSharing.new.Goals as goal

pub returns : goal.returns
returns c = all_feed c.args.room c.args.room [] c.new.result refl c.new.ensures
