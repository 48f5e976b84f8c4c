use denote.Exit.{no}
use denote.Param.Send.{param_send, arg_send}
use Rattle.acdm_displays.proofs.Crossing.{showing_send}
use Rattle.acdm_displays.proofs.displays.Admission.show.Goals as goal

pub begin-requires-send-T : goal.begin-requires-send-T
begin-requires-send-T g c κs within = param_send 1 _ (arg_send _ no _ showing_send)
