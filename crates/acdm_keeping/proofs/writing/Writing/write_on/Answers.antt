use Rattle.std.proofs.Common.{rules, ◌∙◌}
use Rattle.acdm_keeping.proofs.Standing.{stands_all, stands_on}
use Rattle.acdm_keeping.proofs.writing.Writing.write_on.Goals as goal

pub invariant_of-self : goal.invariant_of-self
invariant_of-self g c =
    let i = c.self.invariant in (
      search rules,
      search rules,
      stands_on g.J.Opening.opening c.self.inside.keeper.seen c.keep.new.self.seen c.self.inside.pass
          c.self.inside.keeper.writer.log c.keep.new.self.writer.log i.2 c.keep.ensures.any_moment,
    )

pub invariant_of-self-2 : goal.invariant_of-self-2
invariant_of-self-2 g c =
    let i = c.self.invariant in
    let keeps = i.1 c.in-Ok.ensures.stays in (
      search rules,
      λ works before start saves. c.in-Ok.ensures.kept before start (keeps before start saves),
      stands_all g.J.Opening.opening c.self.inside.keeper.seen c.keep.new.self.seen c.self.inside.pass c.tell.new.pass
          c.self.inside.keeper.writer.log c.keep.new.self.writer.log i.2 c.keep.ensures.any_moment keeps c.in-Ok.ensures.kept
          (c.tell.ensures.kept ∙ c.in-Ok.ensures.count),
    )
