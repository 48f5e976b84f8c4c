use Rattle.std.proofs.Common.{◌≡◌, ◌≤◌, length, take}
use Rattle.serde_json.specs.Data.{no_members}
use Rattle.serde_json.specs.Find.{get_member}
use Rattle.acdm_wire.specs.Plain.{with_members}
use Rattle.acdm_wire.proofs.line_json.last_of.Given as goal

abbrev pub invariant-left : goal.invariant-left
invariant-left l = record {
  inside : l.left ≤ length l.members;
  others : get_member l.name (with_members l.members no_members)
      ≡ get_member l.name (with_members (take l.left l.members) no_members);
}

abbrev pub decreases-left : goal.decreases-left
decreases-left l = l.left
