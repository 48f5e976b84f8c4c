use denote.Exit.{no}
use denote.Param.Send.{param_send, arg_send}
use Rattle.acdm_displays.proofs.Crossing.{resuming_send}
use Rattle.acdm_displays.proofs.displays.Admission.take_request.Goals as goal

pub begin-requires-send-T : goal.begin-requires-send-T
begin-requires-send-T g c κs within = param_send 1 _ (arg_send _ no _ resuming_send)
