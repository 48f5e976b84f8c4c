use Rattle.std.proofs.Common.{sym, ◌∙◌}
use Rattle.serde_json.specs.Data.{no_members}
use Rattle.acdm_wire.proofs.PlainMembers.{more_turn, last_turn}
use Rattle.acdm_wire.proofs.plain.members_in.Goals as goal

pub returns-then-mark-eq125 : goal.returns-then-mark-eq125
returns-then-mark-eq125 c = λ ends.
    c.member.invariant _ (last_turn no_members c.member.rest.now c.in-Some.behind.now c.in-Some-split_first.mark.now
    c.in-Some-split_first.behind.now c.in-Some.member c.member.found.items c.push.new.self.items c.in-Some.ensures
    c.in-Some-split_first.ensures.cases.0 c.push.ensures.items c.if-mark-eq125.true (sym c.is_empty.ensures ∙ ends))

pub member-preserved : goal.member-preserved
member-preserved c = λ ms rest.
    c.member.invariant ms (more_turn no_members c.member.rest.now c.in-Some.behind.now c.in-Some-split_first.mark.now
    c.in-Some-split_first.behind.now c.in-Some.member c.member.found.items c.push.new.self.items c.in-Some.ensures
    c.in-Some-split_first.ensures.cases.0 c.push.ensures.items c.if-mark-ne44.false ms rest)
