use Rattle.std.proofs.Common.{rules}
use Rattle.acdm_displays.specs.declared.asked.DisplayRequest.TheVariants as asks
use Rattle.acdm_displays.proofs.displays.show_following.Goals as goal

pub returns : goal.returns
returns g c = (asks.Follow c.args.start, search rules)
