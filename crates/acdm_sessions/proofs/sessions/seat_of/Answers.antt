use Rattle.std.proofs.Common.{length, refl, ap}
use Rattle.acdm_sessions.specs.Passes.{are_from}
use Rattle.acdm_sessions.proofs.NewPass.{is_new}
use Rattle.acdm_sessions.proofs.sessions.seat_of.Goals as goal

pub invariant_of-caller : goal.invariant_of-caller
invariant_of-caller g c = record {
  one_part = c.requires.part.0;
  counted = c.requires.part.1;
  of_run = c.requires.sigs;
  of_row = c.requires.row;
  of_session = c.requires.caller.0;
  of_role = c.requires.caller.1;
  own = ap length c.requires.empty.2;
  since = ap (are_from g.J.Naming.start) c.requires.empty.1;
}

pub invariant_of-result : goal.invariant_of-result
invariant_of-result g c = record {
  same_number = refl;
  same_role = refl;
  none_yet = refl;
  new = is_new c.args.pass g.J.Naming.desk_row c.args.number c.args.session.role c.requires.row
      c.requires.caller.0 c.requires.caller.1 c.requires.empty.0 c.requires.empty.1
      c.requires.empty.2;
  reads = c.args.session.reads;
  writes = c.args.session.writes;
}
