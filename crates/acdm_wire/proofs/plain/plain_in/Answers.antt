use Rattle.acdm_wire.proofs.PlainMembers.{text_read}
use Rattle.acdm_wire.proofs.plain.plain_in.Goals as goal

pub returns-in-Some : goal.returns-in-Some
returns-in-Some c = λ plain.
    text_read c.args.found.now.items c.in-Some.rest.now c.args.bytes.now _ c.requires c.in-Some.ensures
    (c.members_in.ensures plain)
