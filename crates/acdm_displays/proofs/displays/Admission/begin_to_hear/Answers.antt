use denote.Exit.{no}
use denote.Param.Send.{param_send, arg_send}
use Rattle.acdm_displays.proofs.Crossing.{hearing_send}
use Rattle.acdm_displays.proofs.displays.Admission.begin_to_hear.Goals as goal

pub begin_hearing-requires-send-T : goal.begin_hearing-requires-send-T
begin_hearing-requires-send-T g c κs within = param_send 1 _ (arg_send _ no _ hearing_send)
