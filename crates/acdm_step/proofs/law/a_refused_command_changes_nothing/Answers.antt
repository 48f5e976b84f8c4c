use Rattle.std.proofs.Common.{ap}
use Rattle.acdm_record.specs.Fields.{number_of}
use Rattle.acdm_record.specs.declared.field.Field.TheVariants.{Alerts}
use Rattle.acdm_step.proofs.Refused.{refused_board, refused_flights, refused_record, refused_slot}
use Rattle.acdm_step.proofs.law.a_refused_command_changes_nothing.Goals as goal

pub returns : goal.returns
returns c = record {
  flights = refused_flights;
  records = refused_record;
  alerts = λ J e d flight. ap (λ r. number_of r Alerts) (refused_record J e d flight);
  slots = refused_slot;
  board = refused_board;
}
