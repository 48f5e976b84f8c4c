use Rattle.std.proofs.Common.{sym, ◌+◌}
use Rattle.std.proofs.lemmas.List.{take_rest}
use Rattle.acdm_wire.specs.Plain.{is_stop}
use Rattle.acdm_wire.proofs.PlainText.{position_is, text_read}
use Rattle.acdm_wire.proofs.plain.text_in.Goals as goal

pub returns : goal.returns
returns c =
    let bytes = c.args.bytes.now in
    let end = c.in_ok-end.end in
    rw (take_rest bytes (end + 1)) (text_read bytes end
    (position_is is_stop bytes end (sym c.in_ok-end.ensures.place)) c.if-bytes-end-ne34.false)
