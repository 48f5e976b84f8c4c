-- A reader over connections may be sent to another thread, where what gives them may, and they may.
use Rattle.std.proofs.Common.{ℕ}
use denote.RattleType.{RattleType}
use denote.Param.{number}
use denote.Param.Send.{IsSend, sendable, view_send}
use denote.Param.SendFields.{as_row_send, declared_send}
use Rattle.std.proofs.Crossing.{crosses}
use Rattle.std.specs.declared.io.traits.Read as read
use Rattle.std.proofs.option.Option.TheSendSync as option
use Rattle.std.specs.contracts.option.Option as of_option
use Rattle.acdm_lines.specs.contracts.source.Source as of_source
use Rattle.acdm_lines.proofs.source.Source.TheSendSync as source
use Rattle.acdm_lines.proofs.lines.Lines.TheSendSync as lines
use Rattle.acdm_partners.specs.contracts.hearing.Hearing as hearing
use Rattle.acdm_partners.specs.contracts.hearing.Hearing.TheInside as inside
use Rattle.acdm_partners.specs.contracts.reader.WholeLines as reader
use Rattle.acdm_partners.specs.contracts.reader.WholeLines.TheInside as reader_inside

fields_send : (R : RattleType) (n : ℕ) (d : read.Ghosts R.Denot) → IsSend R
    → IsSend (inside.the_row R (number n) d)
fields_send R n d r =
    declared_send (inside.the_type R (number n) d) (
      as_row_send (of_option.the_field (of_source.the_row R d))
          (option.the_field_send _ (source.the_send R d r)),
      (
        search (lines.the_send, sendable, crosses) depth 20,
        (search (sendable, crosses) depth 20, tt),
      ),
    )

hearing_send : (R : RattleType) (n : ℕ) (d : read.Ghosts R.Denot) → IsSend R
    → IsSend (hearing.the_row R (number n) d)
hearing_send R n d r = view_send _ _ _ _ _ (fields_send R n d r)

parts_send : (A R : RattleType) (n : ℕ) (d : read.Ghosts R.Denot) → IsSend A → IsSend R
    → IsSend (reader_inside.the_row A R (number n) d)
parts_send A R n d a r =
    declared_send (reader_inside.the_type A R (number n) d) (
      search (a, sendable) depth 8,
      (
        as_row_send (hearing.the_field R (number n) d) (hearing_send R n d r),
        (search sendable depth 8, (search sendable depth 8, (search sendable depth 8, tt))),
      ),
    )

pub reader_send : (A R : RattleType) (n : ℕ) (d : read.Ghosts R.Denot) → IsSend A → IsSend R
    → IsSend (reader.the_row A R (number n) d)
reader_send A R n d a r = view_send _ _ _ _ _ (parts_send A R n d a r)
