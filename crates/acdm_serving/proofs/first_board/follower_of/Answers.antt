use denote.Exit.{no}
use denote.Param.Send.{param_send, arg_send}
use Rattle.acdm_serving.proofs.Crossing.{tally_send}
use Rattle.acdm_serving.proofs.first_board.follower_of.Goals as goal

pub begin-requires-send-S : goal.begin-requires-send-S
begin-requires-send-S g c κs within =
    param_send 2 _ (arg_send _ no _ (tally_send _ c.type_bounds.send-Rt))
