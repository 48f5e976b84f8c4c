use Rattle.acdm_serving.proofs.Behind.{ticks_start}
use Rattle.acdm_serving.proofs.reconnecting.add_ticks.Goals as goal

pub returns-clause-starts : goal.returns-clause-starts
returns-clause-starts g c =
    ticks_start _ _ _ _ _ _ _ c.in-Some.is c.in-Ok.ensures.items c.in_ok-session.ensures.start
