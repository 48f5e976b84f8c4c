use Rattle.serde_json.specs.Data.{Members, no_members}
use Rattle.acdm_wire.specs.Plain.{Completes, with_members}
use Rattle.acdm_wire.proofs.plain.members_in.Given as goal

abbrev pub invariant-member : goal.invariant-member
invariant-member l = (ms : Members) → Completes l.rest (with_members l.found.items no_members) ms
    → Completes l.initial.rest (with_members l.initial.found.items no_members) ms
